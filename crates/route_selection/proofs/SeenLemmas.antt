-- What counts of one route more, for candidates and path routes alike: of each name the value of the lowest peer stands.
use Rattle.std.proofs.Common.{◌≡◌, ℕ, ◌<◌, ◌≤◌, List, [], ◌∷◌, ◌++◌, length, drop, get_or, append-nil, append_assoc, sym, ◌∙◌, ap, ap₂, subst, inl, inr, ◌⊎◌, Contains, arith}
use Rattle.std.specs.List.{HoldsAt}
use Rattle.std.proofs.lemmas.List.{get_or_default}
use Rattle.std.proofs.lemmas.List.Elements.{Contains-append_left, Contains-push, Contains-push_cases}
use Rattle.sfc_routes.specs.PeerRoutes.{PeerRoute}
use Rattle.sfc_routes.proofs.MemberLemmas.{no_member}
use Rattle.route_selection.specs.Lowest.{AreLowest, Joins}
use Rattle.route_selection.proofs.LowestLemmas.{joins_lowest, same_lowest, none_lowest, joins_exist}

-- a value is named by its number, then its RD
abbrev pub named : {X : Type 0} → (X → ℕ) → (X → List ℕ) → X → List ℕ
named number rd x = number x ∷ rd x

abbrev pub IsNamed : {X : Type 0} → (X → ℕ) → (X → List ℕ) → X → X → Type 0
IsNamed number rd one x = (number x ≡ number one) × (rd x ≡ rd one)

-- what counts of some of the routes
abbrev pub SeenIn : {X : Type 0} → (PeerRoute → X → Type 0) → List PeerRoute → X → Type 0
SeenIn {X} Counts routes x = (e : PeerRoute) × Contains routes e × Counts e x

-- nothing counts of a route
abbrev pub CountsNone : {X : Type 0} → (PeerRoute → X → Type 0) → PeerRoute → Type 0
CountsNone {X} Counts e = (x : X) → ¬ (Counts e x)

-- ---- the value at a place

module _ {X : Type 0} (number : X → ℕ) (rd : X → List ℕ) (peer : X → ℕ) where
  pub has_name : (xs : List X) (i : ℕ) (one : X) → HoldsAt (IsNamed number rd one) xs i → (d : X) → named number rd (get_or xs i d) ≡ named number rd one
  has_name xs i one at d = ap₂ (λ (k : ℕ) (r : List ℕ). k ∷ r) (at d).0 (at d).1

  pub has_not : (xs : List X) (i : ℕ) (one : X) → ((i < length xs) × HoldsAt (IsNamed number rd one) xs i → ⊥) → (d : X) → i < length xs → named number rd (get_or xs i d) ≡ named number rd one → ⊥
  has_not xs i one none d w e =
      none (w, λ f. subst (IsNamed number rd one) (get_or_default xs i d f w) (ap (λ (l : List ℕ). get_or l 0 0) e, ap (λ (l : List ℕ). drop 1 l) e))

  pub has_lower : (xs : List X) (i : ℕ) (one held d : X) → i < length xs → held ≡ get_or xs i held → peer one < peer held → peer one ≤ peer (get_or xs i d)
  has_lower xs i one held d w is lt = omega (arith, lt, ap peer (is ∙ get_or_default xs i held d w))

-- ---- one route more

module _ {X : Type 0} (name : X → List ℕ) (peer : X → ℕ) (Counts : PeerRoute → X → Type 0) where
  pub seen_none : AreLowest name peer (SeenIn Counts []) []
  seen_none = none_lowest name peer (SeenIn Counts []) (λ x s. no_member s.0 s.1)

  more_seen : (routes : List PeerRoute) (e : PeerRoute) (x : X) → SeenIn Counts routes x → SeenIn Counts (routes ++ e ∷ []) x
  more_seen routes e x s = (s.0, Contains-append_left routes (e ∷ []) s.0 s.1, s.2)

  -- what counts of one route has one name and one peer
  pub seen_joins : ((e : PeerRoute) (x y : X) → Counts e x → Counts e y → (name x ≡ name y) × (peer x ≤ peer y)) → (routes : List PeerRoute) (e : PeerRoute) (one : X) (old new : List X) → Counts e one → Joins name peer one old new → AreLowest name peer (SeenIn Counts routes) old → AreLowest name peer (SeenIn Counts (routes ++ e ∷ [])) new
  seen_joins alike routes e one old new o j u =
      joins_lowest name peer (SeenIn Counts routes) (SeenIn Counts (routes ++ e ∷ [])) one old new
      (more_seen routes e)
      (e, Contains-push routes e, o)
      (λ x m. elim (Contains-push_cases routes e m.0 m.1) [
        | inl left ↦ inl (m.0, left, m.2)
        | inr is ↦ inr (alike e one x o (subst (λ (f : PeerRoute). Counts f x) (sym is) m.2))
      ])
      u j

  pub seen_same : (routes : List PeerRoute) (e : PeerRoute) (xs : List X) → CountsNone Counts e → AreLowest name peer (SeenIn Counts routes) xs → AreLowest name peer (SeenIn Counts (routes ++ e ∷ [])) xs
  seen_same routes e xs none u =
      same_lowest name peer (SeenIn Counts routes) (SeenIn Counts (routes ++ e ∷ [])) xs
      (more_seen routes e)
      (λ x m. elim (Contains-push_cases routes e m.0 m.1) [
        | inl left ↦ (m.0, left, m.2)
        | inr is ↦ absurd (none x (subst (λ (f : PeerRoute). Counts f x) (sym is) m.2))
      ])
      u

  -- ---- there is a list for all routes, where each has what counts of it, or nothing

  abbrev pub IsDecided : PeerRoute → Type 0
  IsDecided e = CountsNone Counts e ⊎ ((x : X) × Counts e x)

  with_one : ((e : PeerRoute) (x y : X) → Counts e x → Counts e y → (name x ≡ name y) × (peer x ≤ peer y)) → (routes : List PeerRoute) (e : PeerRoute) (xs : List X) → IsDecided e → AreLowest name peer (SeenIn Counts routes) xs → (ys : List X) × AreLowest name peer (SeenIn Counts (routes ++ e ∷ [])) ys
  with_one alike routes e xs (inl none) u = (xs, seen_same routes e xs none u)
  with_one alike routes e xs (inr (x, o)) u =
      let j = joins_exist name peer x xs u.in_order in
      (j.0, seen_joins alike routes e x xs j.0 o j.1 u)

  all_from : ((e : PeerRoute) (x y : X) → Counts e x → Counts e y → (name x ≡ name y) × (peer x ≤ peer y)) → ((e : PeerRoute) → IsDecided e) → (done todo : List PeerRoute) (xs : List X) → AreLowest name peer (SeenIn Counts done) xs → (ys : List X) × AreLowest name peer (SeenIn Counts (done ++ todo)) ys
  all_from alike decide done [] xs u = (xs, subst (λ (rs : List PeerRoute). AreLowest name peer (SeenIn Counts rs) xs) (sym (append-nil done)) u)
  all_from alike decide done (e ∷ todo) xs u =
      let next = with_one alike done e xs (decide e) u in
      let rest = all_from alike decide (done ++ e ∷ []) todo next.0 next.1 in
      (rest.0, subst (λ (rs : List PeerRoute). AreLowest name peer (SeenIn Counts rs) rest.0) (append_assoc done (e ∷ []) todo) rest.1)

  pub seen_all : ((e : PeerRoute) (x y : X) → Counts e x → Counts e y → (name x ≡ name y) × (peer x ≤ peer y)) → ((e : PeerRoute) → IsDecided e) → (routes : List PeerRoute) → (xs : List X) × AreLowest name peer (SeenIn Counts routes) xs
  seen_all alike decide routes = all_from alike decide [] routes [] seen_none
