-- Lists in order without the routes of a peer.
use Rattle.std.proofs.Common.{◌≡◌, ℕ, Bool, true, not, ◌==◌, filter, List, [], ◌∷◌, sym, subst, inl, inr, Contains}
use Rattle.std.specs.List.{AllByRecursion}
use Rattle.std.proofs.lemmas.Bool.{cond_both, cond-true, eqb-false, ne_eqb, not-true, not_from_false}
use Rattle.std.proofs.lemmas.List.Elements.{All-contains, All-contains_itself, All-filter, filter_passes}
use Rattle.sfc_routes.specs.PeerRoutes.{PeerRoute, RouteFits}
use Rattle.sfc_routes.specs.RouteOrder.{key_of, IsBefore, InOrder}
use Rattle.sfc_routes.specs.RouteLists.{IsRouteList, Loses}
use Rattle.sfc_routes.proofs.MemberLemmas.{at_front, behind, front_or_behind, no_member, all_member, all_from_members}

module _ (p : PeerRoute → Bool) where
  kept_was : (xs : List PeerRoute) (e : PeerRoute) → Contains (filter p xs) e → Contains xs e
  kept_was xs e m = All-contains (Contains xs) (filter p xs) e (All-filter p (Contains xs) xs (All-contains_itself xs)) m

  kept_passes : (xs : List PeerRoute) (e : PeerRoute) → Contains (filter p xs) e → p e ≡ true
  kept_passes xs e m = All-contains (λ (x : PeerRoute). p x ≡ true) (filter p xs) e (filter_passes p xs) m

  passes_kept : (xs : List PeerRoute) (e : PeerRoute) → Contains xs e → p e ≡ true → Contains (filter p xs) e
  passes_kept [] e m passes = absurd (no_member e m)
  passes_kept (x ∷ xs) e m passes = elim (front_or_behind x xs e m) [
    | inl is ↦ subst (λ (l : List PeerRoute). Contains l e) (sym (cond-true (p x) (x ∷ filter p xs) (filter p xs) (subst (λ (y : PeerRoute). p y ≡ true) (sym is) passes))) (subst (λ (y : PeerRoute). Contains (x ∷ filter p xs) y) is (at_front x (filter p xs)))
    | inr more ↦ cond_both (p x) (x ∷ filter p xs) (filter p xs) (λ (l : List PeerRoute). Contains l e) (λ t. behind x (filter p xs) e (passes_kept xs e more passes)) (λ t. passes_kept xs e more passes)
  ]

  all_kept : (P : PeerRoute → Type 0) (xs : List PeerRoute) → AllByRecursion P xs → AllByRecursion P (filter p xs)
  all_kept P xs a = all_from_members P (filter p xs) (λ e m. all_member P xs e a (kept_was xs e m))

  order_kept : (xs : List PeerRoute) → InOrder xs → InOrder (filter p xs)
  order_kept [] r = tt
  order_kept (x ∷ xs) r = cond_both (p x) (x ∷ filter p xs) (filter p xs) InOrder (λ t. (all_kept (λ (f : PeerRoute). IsBefore (key_of x) (key_of f)) xs r.0, order_kept xs r.1)) (λ t. order_kept xs r.1)

-- a route of another peer
abbrev pub of_others : ℕ → PeerRoute → Bool
of_others peer e = not (e.peer == peer)

pub others_list : (peer : ℕ) (xs : List PeerRoute) → IsRouteList xs → IsRouteList (filter (of_others peer) xs)
others_list peer xs l = record {
  in_order = order_kept (of_others peer) xs l.in_order;
  routes_fit = all_kept (of_others peer) (λ (e : PeerRoute). RouteFits e.route) xs l.routes_fit;
}

pub others_left : (peer : ℕ) (xs : List PeerRoute) → Loses (λ (e : PeerRoute). e.peer ≡ peer) xs (filter (of_others peer) xs)
others_left peer xs e = (
  λ m. (kept_was (of_others peer) xs e m, λ of. eqb-false e.peer peer (not-true (e.peer == peer) (kept_passes (of_others peer) xs e m)) of),
  λ h. passes_kept (of_others peer) xs e h.0 (not_from_false (e.peer == peer) (ne_eqb e.peer peer h.1)),
)
