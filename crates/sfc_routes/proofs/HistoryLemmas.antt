-- A list in order is its members, and has one of a name.
use Rattle.std.proofs.Common.{◌≡◌, List, [], ◌∷◌, sym, ◌∙◌, ap, ap₂, subst, inl, inr, Contains}
use Rattle.sfc_routes.specs.declared.route_changes.RouteChange.{RouteChange}
use Rattle.sfc_routes.specs.PeerRoutes.{PeerRoute, IsOf}
use Rattle.sfc_routes.specs.LastWords.{Stands}
use Rattle.sfc_routes.specs.RouteOrder.{key_of, IsBefore, InOrder}
use Rattle.sfc_routes.specs.RouteLists.{IsRouteList}
use Rattle.sfc_routes.proofs.MemberLemmas.{at_front, behind, front_or_behind, no_member, all_member}
use Rattle.sfc_routes.proofs.OrderLemmas.{key_named, not_before_itself, not_both}

-- the rest has no route of the first one's numbers
not_again : (x e : PeerRoute) (xs : List PeerRoute) → InOrder (x ∷ xs) → Contains xs e → key_of x ≡ key_of e → ⊥
not_again x e xs r m same = not_before_itself (key_of e) (subst (λ k. IsBefore k (key_of e)) same (all_member (λ (f : PeerRoute). IsBefore (key_of x) (key_of f)) xs e r.0 m))

same_members : (xs ys : List PeerRoute) → InOrder xs → InOrder ys → ((e : PeerRoute) → Contains xs e → Contains ys e) → ((e : PeerRoute) → Contains ys e → Contains xs e) → xs ≡ ys
same_members [] [] r s to from = λ i. []
same_members [] (y ∷ ys) r s to from = absurd (no_member y (from y (at_front y ys)))
same_members (x ∷ xs) [] r s to from = absurd (no_member x (to x (at_front x xs)))
same_members (x ∷ xs) (y ∷ ys) r s to from =
    let first : x ≡ y = elim (front_or_behind y ys x (to x (at_front x xs))) [
      | inl is ↦ sym is
      | inr m ↦ elim (front_or_behind x xs y (from y (at_front y ys))) [
        | inl is ↦ is
        | inr n ↦ absurd (not_both (key_of x) (key_of y) (all_member (λ (f : PeerRoute). IsBefore (key_of x) (key_of f)) xs y r.0 n) (all_member (λ (f : PeerRoute). IsBefore (key_of y) (key_of f)) ys x s.0 m))
      ]
    ] in
    let rest : xs ≡ ys = same_members xs ys r.1 s.1
    (λ e m. elim (front_or_behind y ys e (to e (behind x xs e m))) [
      | inl is ↦ absurd (not_again x e xs r m (ap key_of (first ∙ is)))
      | inr n ↦ n
    ])
    (λ e m. elim (front_or_behind x xs e (from e (behind y ys e m))) [
      | inl is ↦ absurd (not_again y e ys s m (ap key_of (sym first ∙ is)))
      | inr n ↦ n
    ]) in
    ap₂ (λ (e : PeerRoute) (es : List PeerRoute). e ∷ es) first rest

pub one_list : (list other : List PeerRoute) (changes : List RouteChange) → IsRouteList list → IsRouteList other → Stands list changes → Stands other changes → list ≡ other
one_list list other changes l o s t = same_members list other l.in_order o.in_order (λ e m. (t e).1 ((s e).0 m)) (λ e m. (s e).1 ((t e).0 m))

same_key : (xs : List PeerRoute) (e f : PeerRoute) → InOrder xs → Contains xs e → Contains xs f → key_of e ≡ key_of f → e ≡ f
same_key [] e f r m n same = absurd (no_member e m)
same_key (x ∷ xs) e f r m n same = elim (front_or_behind x xs e m) [
  | inl is ↦ elim (front_or_behind x xs f n) [
    | inl is' ↦ sym is ∙ is'
    | inr later ↦ absurd (not_again x f xs r later (ap key_of is ∙ same))
  ]
  | inr later ↦ elim (front_or_behind x xs f n) [
    | inl is ↦ absurd (not_again x e xs r later (ap key_of is ∙ sym same))
    | inr later' ↦ same_key xs e f r.1 later later' same
  ]
]

pub one_of_a_name : (list : List PeerRoute) (e f : PeerRoute) → IsRouteList list → Contains list e → Contains list f → IsOf e.peer e.route.nlri f → e ≡ f
one_of_a_name list e f l m n is = same_key list e f l.in_order m n (sym (key_named e.peer e.route.nlri f is))
