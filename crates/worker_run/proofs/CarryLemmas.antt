-- A frame that a worker forwarded over the versions of a round has the record that a run may say.
use Rattle.std.proofs.Common.{◌≡◌, ℕ, ◌+◌, ◌<◌, ◌≤◌, List, [], ◌∷◌, ◌++◌, Some, length, map, subst, ◌∙◌, arith}
use Rattle.std.specs.List.{AllByRecursion, AllZip}
use Rattle.path_selection.specs.Paths.{ServicePath}
use Rattle.path_selection.specs.Published.{Published, table_at}
use Rattle.route_selection.specs.Names.{AreOfRoster}
use Rattle.route_selection.proofs.NameLemmas.{names_roster}
use Rattle.sfc_config.specs.Parts.{Parts}
use Rattle.sfc_routes.specs.Entries.{Entries}
use Rattle.sfc_routes.specs.declared.route_changes.RouteChange.{RouteChange}
use Rattle.table_publish.specs.Publications.{Publications, known_of}
use Rattle.forwarder.specs.Records.{Climbs}
use Rattle.forwarder.specs.Workspaces.{taken_in}
use Rattle.control_histories.specs.Versions.{IsVersion}
use Rattle.worker_run.specs.declared.parts.Part.{Part}
use Rattle.worker_run.specs.Batches.{Carried}
use Rattle.worker_run.specs.Publications.{AreVersions}
use Rattle.worker_run.specs.Runners.{RunCarries}
use Rattle.worker_run.specs.Runs.{ClimbsWithin}
use Rattle.worker_run.specs.Shares.{AreNumbered, AreWalked, Forwarded, Walked, slots_of}
use Rattle.worker_run.proofs.ClimbLemmas.{climbs_up}
use Rattle.worker_run.proofs.NameLemmas.{named}
use Rattle.worker_run.proofs.RunLemmas.{zip_join}
use Rattle.worker_run.proofs.VersionLemmas.{version_named}

-- what is known under a version is the table after so many changes
abbrev Knows : Entries → List RouteChange → List Published → Type 0
Knows roster changes known = (v : ℕ) (t : List ServicePath) → table_at known v ≡ Some t → IsVersion roster changes v t

knows : (roster : Entries) (changes more : List RouteChange) (p : Publications) → p.first ≡ length changes → AreVersions roster changes more p.opening p.lists → Knows roster (changes ++ more) (known_of p)
knows roster changes more p is are = λ v t at. version_named roster changes more p.opening t p.lists p.first v are is at

over_known : (roster : Entries) (changes : List RouteChange) (known : List Published) (vs : List ℕ) (ts : List (List ServicePath)) → Knows roster changes known
    → map (table_at known) vs ≡ map Some ts → AllZip (λ v t. IsVersion roster changes v t) vs ts
over_known roster changes known [] [] k e = tt
over_known roster changes known [] (t ∷ ts) k e = absurd (cc)
over_known roster changes known (v ∷ vs) [] k e = absurd (cc)
over_known roster changes known (v ∷ vs) (t ∷ ts) k e =
    let here : table_at known v ≡ Some t = cc in
    let rest : map (table_at known) vs ≡ map Some ts = cc in
    (k v t here, over_known roster changes known vs ts k rest)

within : (roster : Entries) (changes : List RouteChange) (low before after : ℕ) (vs : List ℕ) (ts : List (List ServicePath)) → low ≤ before → Climbs before vs after
    → AllZip (λ v t. IsVersion roster changes v t) vs ts → ClimbsWithin low (length changes) vs
within roster changes low before after [] ts le climbs all = tt
within roster changes low before after (v ∷ vs) [] le climbs all = absurd all
within roster changes low before after (v ∷ vs) (t ∷ ts) le climbs all =
    let up = climbs.0 in
    let made = all.0.made in
    (omega (arith, le, up), made, within roster changes v v after vs ts (omega arith) climbs.1 all.1)

of_roster : (roster : Entries) (changes : List RouteChange) (vs : List ℕ) (ts : List (List ServicePath)) → AllZip (λ v t. IsVersion roster changes v t) vs ts → AllByRecursion (AreOfRoster roster) ts
of_roster roster changes vs [] all = tt
of_roster roster changes [] (t ∷ ts) all = absurd all
of_roster roster changes (v ∷ vs) (t ∷ ts) all = (names_roster roster all.0.table_is.routes t all.0.table_is.selected, of_roster roster changes vs ts all.1)

carries : (setup : Parts) (changes : List RouteChange) (known : List Published) (low workers worker before after : ℕ) (c d : Carried) → Knows setup.roster changes known → low ≤ before → worker < workers
    → Walked setup worker known before after c d → RunCarries setup changes low (length changes) workers c d
carries setup changes known low workers worker before after c d k le below x =
    let vs = d.outcome.versions.items in
    let r = x.record_is in
    let over = over_known setup.roster changes known vs r.walk.tables k r.looks.named in
    let is = r.worker_is in
    record {
      recorded = record {
        told = record { walk = r.walk; walks = r.walks; over = over; tells = r.tells };
        climbs = within setup.roster changes low before after vs r.walk.tables le r.looks.climbs over;
        worker_below = omega (arith, is, below);
      };
      named = named setup (taken_in c.frame.bytes c.frame.original) r.walk d.outcome (of_roster setup.roster changes vs r.walk.tables over) r.walks r.tells;
      left = x.left;
    }

share_carries : (setup : Parts) (changes : List RouteChange) (known : List Published) (low workers worker before : ℕ) (cs ds : List Carried) → Knows setup.roster changes known → low ≤ before → worker < workers
    → AreWalked setup worker known before cs ds → AllZip (λ c d. RunCarries setup changes low (length changes) workers c d) cs ds
share_carries setup changes known low workers worker before [] [] k le below x = tt
share_carries setup changes known low workers worker before [] (d ∷ ds) k le below x = absurd x
share_carries setup changes known low workers worker before (c ∷ cs) [] k le below x = absurd x
share_carries setup changes known low workers worker before (c ∷ cs) (d ∷ ds) k le below x =
    let up = climbs_up before x.0 d.outcome.versions.items x.1.record_is.looks.climbs in
    (carries setup changes known low workers worker before x.0 c d k le below x.1, share_carries setup changes known low workers worker x.0 cs ds k (omega (arith, le, up)) below x.2)

parts_carry : (setup : Parts) (changes : List RouteChange) (p : Publications) (workers worker : ℕ) (before parts : List Part) → Knows setup.roster changes (known_of p) → worker + length before ≡ workers
    → AreNumbered worker before → AllZip (Forwarded setup p) before parts → AllZip (λ c d. RunCarries setup changes p.first (length changes) workers c d) (slots_of before) (slots_of parts)
parts_carry setup changes p workers worker [] [] k many numbered all = tt
parts_carry setup changes p workers worker [] (q ∷ qs) k many numbered all = absurd all
parts_carry setup changes p workers worker (b ∷ bs) [] k many numbered all = absurd all
parts_carry setup changes p workers worker (b ∷ bs) (q ∷ qs) k many numbered all =
    let is : q.worker ≡ worker = all.0.worker ∙ numbered.0 in
    zip_join (λ c d. RunCarries setup changes p.first (length changes) workers c d) b.slots.items (slots_of bs) q.slots.items (slots_of qs)
    (share_carries setup changes (known_of p) p.first workers q.worker p.first b.slots.items q.slots.items k (omega arith) (omega (arith, is, many)) all.0.walked)
    (parts_carry setup changes p workers (worker + 1) bs qs k (omega (arith, many)) numbered.1 all.1)

-- over the versions of a round
pub all_carry : (setup : Parts) (changes more : List RouteChange) (p : Publications) (workers : ℕ) (before parts : List Part) → p.first ≡ length changes → AreVersions setup.roster changes more p.opening p.lists
    → length before ≡ workers → AreNumbered 0 before → AllZip (Forwarded setup p) before parts
    → AllZip (λ c d. RunCarries setup (changes ++ more) (length changes) (length (changes ++ more)) workers c d) (slots_of before) (slots_of parts)
all_carry setup changes more p workers before parts first are many numbered all =
    subst (λ (low : ℕ). AllZip (λ c d. RunCarries setup (changes ++ more) low (length (changes ++ more)) workers c d) (slots_of before) (slots_of parts)) first
    (parts_carry setup (changes ++ more) p workers 0 before parts (knows setup.roster changes more p first are) (omega (arith, many)) numbered all)
