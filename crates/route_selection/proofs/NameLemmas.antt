-- Selections name forwarders and instances of the roster.
use Rattle.std.proofs.Common.{ℕ, zero, suc, ◌+◌, ◌%◌, ◌<◌, Bool, List, [], ◌∷◌, length, map, filter, sym, subst}
use Rattle.std.specs.List.{All, AllByRecursion, slice_get}
use Rattle.std.proofs.lemmas.Bool.{cond_both}
use Rattle.std.proofs.lemmas.List.Elements.{All-from_recursion}
use Rattle.wire_base.specs.declared.ids.ForwarderId.{ForwarderId}
use Rattle.wire_base.specs.declared.ids.InstanceId.{InstanceId}
use Rattle.sfp_attribute.specs.declared.sfps.Part.{Part}
use Rattle.sfp_attribute.specs.declared.sfps.Part.TheVariants as part
use Rattle.sfc_routes.specs.Entries.{Entries}
use Rattle.sfc_routes.specs.PeerRoutes.{PeerRoute}
use Rattle.sfc_routes.proofs.MemberLemmas.{all_from_members}
use Rattle.path_selection.specs.declared.hops.HopRow.{HopRow}
use Rattle.path_selection.specs.Paths.{ServicePath}
use Rattle.route_selection.specs.declared.candidates.Candidate.{Candidate}
use Rattle.route_selection.specs.Accepted.{PathRoute, firsts}
use Rattle.route_selection.specs.Choices.{candidates, is_named, seat}
use Rattle.route_selection.specs.Selections.{path_rows, path_at, IsSelection}
use Rattle.route_selection.specs.Names.{IsOfRoster, AreOfRoster}

abbrev IsSeat : Entries → ForwarderId × InstanceId → Type 0
IsSeat roster s = (s.0.0 < length roster.forwarders) × (s.1.0 < length roster.instances)

seats_of : (roster : Entries) (p : Candidate → Bool) (cs : List Candidate) → AllByRecursion (λ (c : Candidate). IsSeat roster (seat c)) cs → AllByRecursion (IsSeat roster) (map seat (filter p cs))
seats_of roster p [] a = tt
seats_of roster p (c ∷ cs) a =
    cond_both (p c) (c ∷ filter p cs) (filter p cs) (λ (l : List Candidate). AllByRecursion (IsSeat roster) (map seat l))
    (λ e. (a.0, seats_of roster p cs a.1))
    (λ e. seats_of roster p cs a.1)

chosen_of : (roster : Entries) (seats : List (ForwarderId × InstanceId)) (k : ℕ) → AllByRecursion (IsSeat roster) seats → IsOfRoster roster (slice_get seats k)
chosen_of roster [] k a = tt
chosen_of roster (s ∷ ss) zero a = a.0
chosen_of roster (s ∷ ss) (suc k) a = chosen_of roster ss k a.1

rows_of : (roster : Entries) (usable : List Candidate) (spi : ℕ) (ps : List Part) → AllByRecursion (λ (c : Candidate). IsSeat roster (seat c)) usable → AllByRecursion (λ (row : HopRow). IsOfRoster roster row.choice) (path_rows usable spi ps)
rows_of roster usable spi [] a = tt
rows_of roster usable spi (part.Association kind rd other ∷ ps) a = rows_of roster usable spi ps a
rows_of roster usable spi (part.Hop si inside ∷ ps) a =
    let seats : List (ForwarderId × InstanceId) = map seat (candidates usable inside) in
    (chosen_of roster seats ((spi + si) % length seats) (seats_of roster (is_named inside) usable a), rows_of roster usable spi ps a)
rows_of roster usable spi (part.Other kind body ∷ ps) a = rows_of roster usable spi ps a

paths_of : (roster : Entries) (usable : List Candidate) (ps : List PathRoute) → AllByRecursion (λ (c : Candidate). IsSeat roster (seat c)) usable → AllByRecursion (λ (path : ServicePath). All (λ (row : HopRow). IsOfRoster roster row.choice) path.rows) (map (path_at usable) ps)
paths_of roster usable [] a = tt
paths_of roster usable (p ∷ ps) a =
    (All-from_recursion (λ (row : HopRow). IsOfRoster roster row.choice) (path_rows usable p.spi p.sfp.parts) (rows_of roster usable p.spi p.sfp.parts a), paths_of roster usable ps a)

pub names_roster : (roster : Entries) (routes : List PeerRoute) (table : List ServicePath) → IsSelection roster routes table → AreOfRoster roster table
names_roster roster routes table s =
    let seats : AllByRecursion (λ (c : Candidate). IsSeat roster (seat c)) s.usable =
    all_from_members (λ (c : Candidate). IsSeat roster (seat c)) s.usable (λ c m. let o = s.are_usable.each c m in (o.2.at_forwarder.0, o.2.at_instance.0)) in
    subst (AreOfRoster roster) (sym s.paths)
    (All-from_recursion (λ (path : ServicePath). All (λ (row : HopRow). IsOfRoster roster row.choice) path.rows) (map (path_at s.usable) (firsts 0 s.accepted)) (paths_of roster s.usable (firsts 0 s.accepted) seats))
