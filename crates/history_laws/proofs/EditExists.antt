-- A route can always be taken out of a list in order, and can always join it.
use Rattle.std.proofs.Common.{◌≡◌, ℕ, zero, suc, ◌<◌, ◌≤◌, true, false, List, [], ◌∷◌, ◌++◌, append_assoc, arith, bytes_eq, filter, get_or, inl, inr, is_lt, length, nat_cmp, slice_set, subst, sym, true≢false, ◌∙◌, ◌⊎◌}
use Rattle.std.specs.List.{AllByRecursion, insert, remove}
use Rattle.std.specs.Cmp.Lexicographic.{slice_cmp}
use Rattle.std.proofs.lemmas.Bool.{cases_Bool}
use Rattle.std.proofs.lemmas.List.{append-nil}
use Rattle.std.proofs.lemmas.Slice.Eq.{bytes_eq-Decides}
use Rattle.bgp_update.specs.declared.routes.Nlri.{Nlri}
use Rattle.sfc_routes.specs.declared.route_changes.RouteChange.{RouteChange}
use Rattle.sfc_routes.specs.PeerRoutes.{IsOf, IsRouteChange, PeerRoute, RouteFits}
use Rattle.sfc_routes.specs.RouteOrder.{InOrder, key, key_of}
use Rattle.sfc_routes.specs.LastWords.{Follows, Stands}
use Rattle.sfc_routes.specs.RouteLists.{IsRouteList, IsThere, Loses, LosesNamed, Puts, PutsAll, peer_routes}
use Rattle.sfc_routes.proofs.EditLemmas.{IsPlace, absent_loses, insert_keeps, insert_puts, remove_keeps, remove_loses, set_keeps, set_puts}
use Rattle.sfc_routes.proofs.FilterLemmas.{of_others, others_left, others_list}
use Rattle.sfc_routes.proofs.OrderLemmas.{in_parts, key_named, named_by}
use Rattle.sfc_routes.proofs.WordLemmas.{Gone, all_gone, follows_both, loses_more, loses_none, named_gone, peer_fits, puts_more, puts_none, stands_empty, stands_more}

-- ---- places

-- where the first route does not come before some numbers, none does
none_before : (k : List ℕ) (x : PeerRoute) (xs : List PeerRoute) → InOrder (x ∷ xs) → is_lt (slice_cmp nat_cmp (key_of x) k) ≡ false
    → (j : ℕ) (d : PeerRoute) → j < length (x ∷ xs) → is_lt (slice_cmp nat_cmp (key_of (get_or (x ∷ xs) j d)) k) ≡ false
none_before k x xs r later j d lt = elim (cases_Bool (is_lt (slice_cmp nat_cmp (key_of (get_or (x ∷ xs) j d)) k))) [
  | inl less ↦ absurd (true≢false (sym (in_parts k (x ∷ xs) r zero j d (omega arith) lt less) ∙ later))
  | inr later_too ↦ later_too
]

front_further : (k : List ℕ) (x : PeerRoute) (xs : List PeerRoute) (i : ℕ) → is_lt (slice_cmp nat_cmp (key_of x) k) ≡ true → IsPlace k xs i
    → (j : ℕ) (d : PeerRoute) → j < suc i → is_lt (slice_cmp nat_cmp (key_of (get_or (x ∷ xs) j d)) k) ≡ true
front_further k x xs i first place zero d lt = first
front_further k x xs i first place (suc j) d lt = place.front j d (omega (arith, lt))

back_further : (k : List ℕ) (x : PeerRoute) (xs : List PeerRoute) (i : ℕ) → IsPlace k xs i
    → (j : ℕ) (d : PeerRoute) → suc i ≤ j → j < length (x ∷ xs) → is_lt (slice_cmp nat_cmp (key_of (get_or (x ∷ xs) j d)) k) ≡ false
back_further k x xs i place zero d le lt = absurd (omega (arith, le))
back_further k x xs i place (suc j) d le lt = place.back j d (omega (arith, le)) (omega (arith, lt))

some_place : (k : List ℕ) (xs : List PeerRoute) → InOrder xs → (i : ℕ) × IsPlace k xs i
some_place k [] r =
    (0, record { within = omega arith; front = λ j d lt. absurd (omega (arith, lt)); back = λ j d le lt. absurd (omega (arith, lt)) })
some_place k (x ∷ xs) r = elim (cases_Bool (is_lt (slice_cmp nat_cmp (key_of x) k))) [
  | inl first ↦
      let place = some_place k xs r.1 in
      (suc place.0, record { within = let w = place.1.within in omega (arith, w); front = front_further k x xs place.0 first place.1; back = back_further k x xs place.0 place.1 })
  | inr later ↦ (0, record { within = omega arith; front = λ j d lt. absurd (omega (arith, lt)); back = λ j d le lt. none_before k x xs r later j d lt })
]

-- ---- names

is_of : (peer : ℕ) (nlri : Nlri) (e : PeerRoute) → IsOf peer nlri e ⊎ (IsOf peer nlri e → ⊥)
is_of peer nlri e = elim (cases_Bool (bytes_eq (key_of e) (key peer nlri))) [
  | inl same ↦ inl (named_by peer nlri e ((bytes_eq-Decides (key_of e) (key peer nlri)).0 same))
  | inr other ↦ inr (λ is. true≢false (sym ((bytes_eq-Decides (key_of e) (key peer nlri)).1 (key_named peer nlri e is)) ∙ other))
]

-- a route of the name stands at the place, or none does
there_or_not : (xs : List PeerRoute) (i peer : ℕ) (nlri : Nlri) → IsThere xs i peer nlri ⊎ (IsThere xs i peer nlri → ⊥)
there_or_not [] i peer nlri = inr (λ there. absurd (omega (arith, there.0)))
there_or_not (x ∷ xs) zero peer nlri = elim (is_of peer nlri x) [
  | inl is ↦ inl (omega arith, λ d. is)
  | inr not ↦ inr (λ there. not (there.1 x))
]
there_or_not (x ∷ xs) (suc i) peer nlri = elim (there_or_not xs i peer nlri) [
  | inl there ↦ inl (omega (arith, there.0), λ d. there.1 d)
  | inr not ↦ inr (λ there. not (omega (arith, there.0), λ d. there.1 d))
]

some_of : (xs : List PeerRoute) (i : ℕ) → i < length xs → PeerRoute
some_of [] i lt = absurd (omega (arith, lt))
some_of (x ∷ xs) i lt = x

-- ---- a route goes

-- a list in order that has lost these
record Lost (Goes : PeerRoute → Type 0) (old : List PeerRoute) : Type 0 where
  list : List PeerRoute
  kept : IsRouteList list
  loses : Loses Goes old list

withdrawn : (xs : List PeerRoute) (peer : ℕ) (nlri : Nlri) → IsRouteList xs → Lost (IsOf peer nlri) xs
withdrawn xs peer nlri l =
    let place = some_place (key peer nlri) xs l.in_order in
    elim (there_or_not xs place.0 peer nlri) [
      | inl there ↦
          let d = some_of xs place.0 there.0 in
          record { list = remove xs place.0; kept = remove_keeps xs place.0 peer nlri d l there; loses = remove_loses xs place.0 peer nlri d l there }
      | inr not ↦ record { list = xs; kept = l; loses = absent_loses xs place.0 peer nlri l.in_order place.1 not }
    ]

-- these names are gone, and then those
record LostNamed (peer : ℕ) (nlris : List Nlri) (old : List PeerRoute) : Type 0 where
  list : List PeerRoute
  kept : IsRouteList list
  loses : LosesNamed peer nlris old list

withdrawn_more : (peer : ℕ) (gone more : List Nlri) (old : List PeerRoute) → LostNamed peer gone old → LostNamed peer (gone ++ more) old
withdrawn_more peer gone [] old l = subst (λ (ns : List Nlri). LostNamed peer ns old) (sym (append-nil gone)) l
withdrawn_more peer gone (n ∷ more) old l =
    let next = withdrawn l.list peer n l.kept in
    let longer : LostNamed peer (gone ++ n ∷ []) old = record { list = next.list; kept = next.kept; loses = loses_more peer gone n old l.list next.list l.loses next.loses } in
    subst (λ (ns : List Nlri). LostNamed peer ns old) (append_assoc gone (n ∷ []) more) (withdrawn_more peer (gone ++ n ∷ []) more old longer)

gone_of : (change : RouteChange) (old : List PeerRoute) → IsRouteList old → Lost (Gone change) old
gone_of change old l = elim (cases_Bool change.all) [
  | inl all ↦ record { list = filter (of_others change.peer) old; kept = others_list change.peer old l; loses = all_gone change old (filter (of_others change.peer) old) all (others_left change.peer old) }
  | inr some ↦
      let named = withdrawn_more change.peer [] change.withdrawn old (record { list = old; kept = l; loses = loses_none change.peer old }) in
      record { list = named.list; kept = named.kept; loses = named_gone change old named.list some named.loses }
]

-- ---- routes join

record Joined (one : PeerRoute) (old : List PeerRoute) : Type 0 where
  list : List PeerRoute
  kept : IsRouteList list
  puts : Puts one old list

joins : (one : PeerRoute) (xs : List PeerRoute) → IsRouteList xs → RouteFits one.route → Joined one xs
joins one xs l fits =
    let place = some_place (key_of one) xs l.in_order in
    elim (there_or_not xs place.0 one.peer one.route.nlri) [
      | inl there ↦ record { list = slice_set xs place.0 one; kept = set_keeps xs place.0 one l fits there; puts = set_puts xs place.0 one l.in_order there }
      | inr not ↦ record { list = insert xs place.0 one; kept = insert_keeps xs place.0 one l fits place.1 not; puts = insert_puts xs place.0 one l.in_order place.1 not }
    ]

record JoinedAll (ones old : List PeerRoute) : Type 0 where
  list : List PeerRoute
  kept : IsRouteList list
  puts : PutsAll ones old list

join : (ones xs : List PeerRoute) → IsRouteList xs → AllByRecursion (λ (e : PeerRoute). RouteFits e.route) ones → JoinedAll ones xs
join [] xs l fit = record { list = xs; kept = l; puts = puts_none xs }
join (one ∷ ones) xs l fit =
    let first = joins one xs l fit.0 in
    let rest = join ones first.list first.kept fit.1 in
    record { list = rest.list; kept = rest.kept; puts = puts_more one ones xs first.list rest.list first.puts rest.puts }

-- ---- changes

pub record Followed (old : List PeerRoute) (change : RouteChange) : Type 0 where
  pub list : List PeerRoute
  pub kept : IsRouteList list
  pub follows : Follows old change list

pub followed : (old : List PeerRoute) (change : RouteChange) → IsRouteList old → IsRouteChange change → Followed old change
followed old change l fits =
    let left = gone_of change old l in
    let new = join (peer_routes change.peer change.announced) left.list left.kept (peer_fits change.peer change.announced fits) in
    record { list = new.list; kept = new.kept; follows = follows_both change old left.list new.list left.loses new.puts }

-- routes that stand after these changes, and then those
record StandsAfter (changes : List RouteChange) : Type 0 where
  list : List PeerRoute
  kept : IsRouteList list
  stands : Stands list changes

after_more : (changes more : List RouteChange) → AllByRecursion IsRouteChange more → StandsAfter changes → StandsAfter (changes ++ more)
after_more changes [] fit s = subst StandsAfter (sym (append-nil changes)) s
after_more changes (c ∷ more) fit s =
    let next = followed s.list c s.kept fit.0 in
    let longer : StandsAfter (changes ++ c ∷ []) = record { list = next.list; kept = next.kept; stands = stands_more s.list next.list c changes next.follows s.stands } in
    subst StandsAfter (append_assoc changes (c ∷ []) more) (after_more (changes ++ c ∷ []) more fit.1 longer)

pub some_routes : (changes : List RouteChange) → AllByRecursion IsRouteChange changes → (routes : List PeerRoute) × IsRouteList routes × Stands routes changes
some_routes changes fit =
    let all = after_more [] changes fit (record { list = []; kept = record { in_order = tt; routes_fit = tt }; stands = stands_empty }) in
    (all.list, all.kept, all.stands)
