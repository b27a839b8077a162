-- Lists in the order of their names, and what a value more makes of them.
use Rattle.std.proofs.Common.{◌≡◌, ℕ, zero, suc, ◌<◌, ◌≤◌, true, false, List, [], ◌∷◌, ◌++◌, length, take, drop, get_or, slice_set, refl, sym, ◌∙◌, ap, ap₂, subst, inl, inr, ◌⊎◌, Contains, arith, nat_cmp, is_lt, le_refl, bytes_eq, true≢false}
use Rattle.std.specs.Cmp.Lexicographic.{slice_cmp}
use Rattle.std.specs.List.{AllByRecursion, insert}
use Rattle.std.specs.List.Sorted.{IsPartitionedBy}
use Rattle.std.proofs.lemmas.Bool.{cases_lt, cases_Bool}
use Rattle.std.proofs.lemmas.Slice.Eq.{bytes_eq-Decides}
use Rattle.std.proofs.lemmas.List.{take-append-drop}
use Rattle.std.proofs.lemmas.List.Elements.{All-get_or, All-from_recursion, Contains-get_or, Contains-append_left, Contains-append_right, Contains-append_cases}
use Rattle.sfc_routes.specs.RouteOrder.{IsBefore}
use Rattle.sfc_routes.proofs.MemberLemmas.{at_front, behind, front_or_behind, no_member, all_member, all_from_members}
use Rattle.sfc_routes.proofs.OrderLemmas.{less_from, not_before_itself, not_both, before_trans, before_since}
use Rattle.route_selection.specs.Lowest.{Ascends, HasLower, AreLowest, Joins}

-- of two names one comes before the other, or they are one
before_or_same : (a b : List ℕ) → IsBefore a b ⊎ ((a ≡ b) ⊎ IsBefore b a)
before_or_same a b = elim (cases_Bool (is_lt (slice_cmp nat_cmp a b))) [
  | inl less ↦ inl (less_from (slice_cmp nat_cmp a b) less)
  | inr later ↦ elim (cases_Bool (bytes_eq a b)) [
    | inl same ↦ inr (inl ((bytes_eq-Decides a b).0 same))
    | inr other ↦ inr (inr (before_since a b later (λ e. true≢false (sym ((bytes_eq-Decides a b).1 e) ∙ other))))
  ]
]

module _ {X : Type 0} (name : X → List ℕ) (peer : X → ℕ) where
  -- ---- places

  all_at : (P : X → Type 0) (xs : List X) (i : ℕ) (d : X) → i < length xs → AllByRecursion P xs → P (get_or xs i d)
  all_at P xs i d w a = All-get_or P xs i d w (All-from_recursion P xs a)

  pub at_places : (xs : List X) → Ascends name xs → (i j : ℕ) (d : X) → i < j → j < length xs → IsBefore (name (get_or xs i d)) (name (get_or xs j d))
  at_places [] r i j d lt h = absurd (omega (arith, h))
  at_places (x ∷ xs) r zero zero d lt h = absurd (omega (arith, lt))
  at_places (x ∷ xs) r zero (suc j) d lt h = all_at (λ (y : X). IsBefore (name x) (name y)) xs j d (omega (arith, h)) r.0
  at_places (x ∷ xs) r (suc i) zero d lt h = absurd (omega (arith, lt))
  at_places (x ∷ xs) r (suc i) (suc j) d lt h = at_places xs r.1 i j d (omega (arith, lt)) (omega (arith, h))

  -- those before a name stand in front of the others
  pub in_parts : (k : List ℕ) (xs : List X) → Ascends name xs → IsPartitionedBy (λ (x : X). is_lt (slice_cmp nat_cmp (name x) k)) xs
  in_parts k xs r i j d le h e = elim (cases_lt i j) [
    | inl lt ↦ ap is_lt (before_trans (name (get_or xs i d)) (name (get_or xs j d)) k (at_places xs r i j d lt h) (less_from (slice_cmp nat_cmp (name (get_or xs j d)) k) e))
    | inr ge ↦ subst (λ (n : ℕ). is_lt (slice_cmp nat_cmp (name (get_or xs n d)) k) ≡ true) (omega (arith, le, ge)) e
  ]

  -- ---- one joins between others

  all_after : (k : List ℕ) (x : X) (xs : List X) → IsBefore k (name x) → AllByRecursion (λ (y : X). IsBefore (name x) (name y)) xs → AllByRecursion (λ (y : X). IsBefore k (name y)) xs
  all_after k x [] b a = tt
  all_after k x (y ∷ ys) b a = (before_trans k (name x) (name y) b a.0, all_after k x ys b a.1)

  all_with : (P : X → Type 0) (xs : List X) (i : ℕ) (one : X) → P one → AllByRecursion P xs → AllByRecursion P (take i xs ++ one ∷ drop i xs)
  all_with P [] zero one p a = (p, tt)
  all_with P [] (suc i) one p a = (p, tt)
  all_with P (x ∷ xs) zero one p a = (p, a)
  all_with P (x ∷ xs) (suc i) one p a = (a.0, all_with P xs i one p a.1)

  insert_ascends : (xs : List X) (i : ℕ) (one : X) → Ascends name xs
      → ((j : ℕ) (d : X) → j < i → is_lt (slice_cmp nat_cmp (name (get_or xs j d)) (name one)) ≡ true)
      → ((j : ℕ) (d : X) → i ≤ j → j < length xs → is_lt (slice_cmp nat_cmp (name (get_or xs j d)) (name one)) ≡ false)
      → ((d : X) → i < length xs → name (get_or xs i d) ≡ name one → ⊥)
      → i ≤ length xs → Ascends name (take i xs ++ one ∷ drop i xs)
  insert_ascends [] zero one r f b n w = (tt, tt)
  insert_ascends [] (suc i) one r f b n w = absurd (omega (arith, w))
  insert_ascends (x ∷ xs) zero one r f b n w =
      let before = before_since (name x) (name one) (b zero x (omega arith) (omega arith)) (λ e. n x (omega arith) e) in
      ((before, all_after (name one) x xs before r.0), r)
  insert_ascends (x ∷ xs) (suc i) one r f b n w =
      let before = less_from (slice_cmp nat_cmp (name x) (name one)) (f zero x (omega arith)) in (
        all_with (λ (y : X). IsBefore (name x) (name y)) xs i one before r.0,
        insert_ascends xs i one r.1 (λ j d lt. f (suc j) d (omega (arith, lt))) (λ j d le lt. b (suc j) d (omega (arith, le)) (omega (arith, lt))) (λ d lt e. n d (omega (arith, lt)) e) (omega (arith, w)),
      )

  old_member : (xs : List X) (i : ℕ) (e : X) → Contains (take i xs ++ drop i xs) e → Contains xs e
  old_member xs i e m = subst (λ (l : List X). Contains l e) (take-append-drop i xs) m

  insert_was : (xs : List X) (i : ℕ) (one e : X) → Contains (take i xs ++ one ∷ drop i xs) e → (one ≡ e) ⊎ Contains xs e
  insert_was xs i one e m = elim (Contains-append_cases (take i xs) (one ∷ drop i xs) e m) [
    | inl left ↦ inr (old_member xs i e (Contains-append_left (take i xs) (drop i xs) e left))
    | inr right ↦ elim (front_or_behind one (drop i xs) e right) [
      | inl is ↦ inl is
      | inr more ↦ inr (old_member xs i e (Contains-append_right (take i xs) (drop i xs) e more))
    ]
  ]

  insert_stays : (xs : List X) (i : ℕ) (one e : X) → Contains xs e → Contains (take i xs ++ one ∷ drop i xs) e
  insert_stays xs i one e m = elim (Contains-append_cases (take i xs) (drop i xs) e (subst (λ (l : List X). Contains l e) (sym (take-append-drop i xs)) m)) [
    | inl left ↦ Contains-append_left (take i xs) (one ∷ drop i xs) e left
    | inr right ↦ Contains-append_right (take i xs) (one ∷ drop i xs) e (behind one (drop i xs) e right)
  ]

  lower_itself : (xs : List X) (x : X) → Contains xs x → HasLower name peer xs x
  lower_itself xs x m = record { low = x; there = m; named = refl; lower = le_refl (peer x) }

  pub insert_joins : (xs : List X) (i : ℕ) (one : X) → Ascends name xs
      → ((j : ℕ) (d : X) → j < i → is_lt (slice_cmp nat_cmp (name (get_or xs j d)) (name one)) ≡ true)
      → ((j : ℕ) (d : X) → i ≤ j → j < length xs → is_lt (slice_cmp nat_cmp (name (get_or xs j d)) (name one)) ≡ false)
      → ((d : X) → i < length xs → name (get_or xs i d) ≡ name one → ⊥)
      → i ≤ length xs → Joins name peer one xs (insert xs i one)
  insert_joins xs i one r f b n w = record {
    in_order = insert_ascends xs i one r f b n w;
    was = λ x m. insert_was xs i one x m;
    stays = λ x m. lower_itself (take i xs ++ one ∷ drop i xs) x (insert_stays xs i one x m);
    joins = lower_itself (take i xs ++ one ∷ drop i xs) one (Contains-append_right (take i xs) (one ∷ drop i xs) one (at_front one (drop i xs)));
  }

  -- ---- one stands in place of another

  all_set : (P : X → Type 0) (xs : List X) (i : ℕ) (one : X) → P one → AllByRecursion P xs → AllByRecursion P (slice_set xs i one)
  all_set P [] zero one p a = tt
  all_set P [] (suc i) one p a = tt
  all_set P (x ∷ xs) zero one p a = (p, a.1)
  all_set P (x ∷ xs) (suc i) one p a = (a.0, all_set P xs i one p a.1)

  set_ascends : (xs : List X) (i : ℕ) (one : X) → Ascends name xs → i < length xs → ((d : X) → name (get_or xs i d) ≡ name one) → Ascends name (slice_set xs i one)
  set_ascends [] i one r w e = absurd (omega (arith, w))
  set_ascends (x ∷ xs) zero one r w e = (subst (λ (k : List ℕ). AllByRecursion (λ (y : X). IsBefore k (name y)) xs) (e x) r.0, r.1)
  set_ascends (x ∷ xs) (suc i) one r w e =
      let before = subst (λ (k : List ℕ). IsBefore (name x) k) (e x) (all_at (λ (y : X). IsBefore (name x) (name y)) xs i x (omega (arith, w)) r.0) in
      (all_set (λ (y : X). IsBefore (name x) (name y)) xs i one before r.0, set_ascends xs i one r.1 (omega (arith, w)) e)

  set_was : (xs : List X) (i : ℕ) (one e : X) → Contains (slice_set xs i one) e → (one ≡ e) ⊎ Contains xs e
  set_was [] zero one e m = inr m
  set_was [] (suc i) one e m = inr m
  set_was (x ∷ xs) zero one e m = elim (front_or_behind one xs e m) [ inl is ↦ inl is | inr more ↦ inr (behind x xs e more) ]
  set_was (x ∷ xs) (suc i) one e m = elim (front_or_behind x (slice_set xs i one) e m) [
    | inl is ↦ inr (subst (λ (y : X). Contains (x ∷ xs) y) is (at_front x xs))
    | inr more ↦ elim (set_was xs i one e more) [ inl is ↦ inl is | inr old ↦ inr (behind x xs e old) ]
  ]

  set_has : (xs : List X) (i : ℕ) (one : X) → i < length xs → Contains (slice_set xs i one) one
  set_has [] i one w = absurd (omega (arith, w))
  set_has (x ∷ xs) zero one w = at_front one xs
  set_has (x ∷ xs) (suc i) one w = behind x (slice_set xs i one) one (set_has xs i one (omega (arith, w)))

  set_stays : (xs : List X) (i : ℕ) (one e : X) → i < length xs → Contains xs e → (get_or xs i e ≡ e) ⊎ Contains (slice_set xs i one) e
  set_stays [] i one e w m = absurd (omega (arith, w))
  set_stays (x ∷ xs) zero one e w m = elim (front_or_behind x xs e m) [ inl is ↦ inl is | inr more ↦ inr (behind one xs e more) ]
  set_stays (x ∷ xs) (suc i) one e w m = elim (front_or_behind x xs e m) [
    | inl is ↦ inr (subst (λ (y : X). Contains (x ∷ slice_set xs i one) y) is (at_front x (slice_set xs i one)))
    | inr more ↦ elim (set_stays xs i one e (omega (arith, w)) more) [ inl is ↦ inl is | inr new ↦ inr (behind x (slice_set xs i one) e new) ]
  ]

  pub set_joins : (xs : List X) (i : ℕ) (one : X) → Ascends name xs → i < length xs → ((d : X) → name (get_or xs i d) ≡ name one) → ((d : X) → peer one ≤ peer (get_or xs i d)) → Joins name peer one xs (slice_set xs i one)
  set_joins xs i one r w e le = record {
    in_order = set_ascends xs i one r w e;
    was = λ x m. set_was xs i one x m;
    stays = λ x m. elim (set_stays xs i one x w m) [
      | inl is ↦ record { low = one; there = set_has xs i one w; named = sym (e x) ∙ ap name is; lower = subst (λ (y : X). peer one ≤ peer y) is (le x) }
      | inr new ↦ lower_itself (slice_set xs i one) x new
    ];
    joins = lower_itself (slice_set xs i one) one (set_has xs i one w);
  }

  -- ---- one is left out

  pub same_joins : (xs : List X) (i : ℕ) (one : X) → Ascends name xs → i < length xs → ((d : X) → name (get_or xs i d) ≡ name one) → ((d : X) → peer (get_or xs i d) ≤ peer one) → Joins name peer one xs xs
  same_joins xs i one r w e le = record {
    in_order = r;
    was = λ x m. inr m;
    stays = λ x m. lower_itself xs x m;
    joins = record { low = get_or xs i one; there = Contains-get_or xs i one w; named = e one; lower = le one };
  }

  -- ---- there is a list with one more

  in_front : (one x : X) (xs : List X) → Ascends name (x ∷ xs) → IsBefore (name one) (name x) → (new : List X) × Joins name peer one (x ∷ xs) new
  in_front one x xs r before = (
    one ∷ x ∷ xs,
    record {
      in_order = ((before, all_after (name one) x xs before r.0), r);
      was = λ y m. front_or_behind one (x ∷ xs) y m;
      stays = λ y m. lower_itself (one ∷ x ∷ xs) y (behind one (x ∷ xs) y m);
      joins = lower_itself (one ∷ x ∷ xs) one (at_front one (x ∷ xs));
    },
  )

  in_place : (one x : X) (xs : List X) → Ascends name (x ∷ xs) → name one ≡ name x → (new : List X) × Joins name peer one (x ∷ xs) new
  in_place one x xs r same = elim (cases_lt (peer one) (peer x)) [
    | inl lt ↦ (slice_set (x ∷ xs) 0 one, set_joins (x ∷ xs) 0 one r (omega arith) (λ d. sym same) (λ d. omega (arith, lt)))
    | inr le ↦ (x ∷ xs, same_joins (x ∷ xs) 0 one r (omega arith) (λ d. sym same) (λ d. le))
  ]

  lower_behind : (x : X) (xs : List X) (y : X) → HasLower name peer xs y → HasLower name peer (x ∷ xs) y
  lower_behind x xs y h = record { low = h.low; there = behind x xs h.low h.there; named = h.named; lower = h.lower }

  further : (one x : X) (xs new : List X) → Ascends name (x ∷ xs) → IsBefore (name x) (name one) → Joins name peer one xs new → Joins name peer one (x ∷ xs) (x ∷ new)
  further one x xs new r before j = record {
    in_order = (
      all_from_members (λ (y : X). IsBefore (name x) (name y)) new (λ y m. elim (j.was y m) [
        | inl is ↦ subst (λ (z : X). IsBefore (name x) (name z)) is before
        | inr old ↦ all_member (λ (z : X). IsBefore (name x) (name z)) xs y r.0 old
      ]),
      j.in_order,
    );
    was = λ y m. elim (front_or_behind x new y m) [
      | inl is ↦ inr (subst (λ (z : X). Contains (x ∷ xs) z) is (at_front x xs))
      | inr more ↦ elim (j.was y more) [ inl is ↦ inl is | inr old ↦ inr (behind x xs y old) ]
    ];
    stays = λ y m. elim (front_or_behind x xs y m) [
      | inl is ↦ lower_itself (x ∷ new) y (subst (λ (z : X). Contains (x ∷ new) z) is (at_front x new))
      | inr old ↦ lower_behind x new y (j.stays y old)
    ];
    joins = lower_behind x new one j.joins;
  }

  pub joins_exist : (one : X) (xs : List X) → Ascends name xs → (new : List X) × Joins name peer one xs new
  joins_exist one [] r = (
    one ∷ [],
    record {
      in_order = (tt, tt);
      was = λ x m. elim (front_or_behind one [] x m) [ inl is ↦ inl is | inr none ↦ absurd (no_member x none) ];
      stays = λ x m. absurd (no_member x m);
      joins = lower_itself (one ∷ []) one (at_front one []);
    },
  )
  joins_exist one (x ∷ xs) r = elim (before_or_same (name one) (name x)) [
    | inl before ↦ in_front one x xs r before
    | inr (inl same) ↦ in_place one x xs r same
    | inr (inr before) ↦ let rest = joins_exist one xs r.1 in (x ∷ rest.0, further one x xs rest.0 r before rest.1)
  ]

  -- ---- the lowest of more

  pub joins_lowest : (Seen More : X → Type 0) (one : X) (old new : List X) → ((x : X) → Seen x → More x) → More one
      → ((x : X) → More x → Seen x ⊎ ((name one ≡ name x) × (peer one ≤ peer x)))
      → AreLowest name peer Seen old → Joins name peer one old new → AreLowest name peer More new
  joins_lowest Seen More one old new to it from l j = record {
    in_order = j.in_order;
    each = λ x m. elim (j.was x m) [ inl is ↦ subst More is it | inr was ↦ to x (l.each x was) ];
    all = λ x m. elim (from x m) [
      | inl seen ↦
          let h = l.all x seen in
          let g = j.stays h.low h.there in
          record { low = g.low; there = g.there; named = g.named ∙ h.named; lower = omega (arith, g.lower, h.lower) }
      | inr pair ↦
          let g = j.joins in
          record { low = g.low; there = g.there; named = g.named ∙ pair.0; lower = omega (arith, g.lower, pair.1) }
    ];
  }

  pub same_lowest : (Seen More : X → Type 0) (xs : List X) → ((x : X) → Seen x → More x) → ((x : X) → More x → Seen x) → AreLowest name peer Seen xs → AreLowest name peer More xs
  same_lowest Seen More xs to from l = record {
    in_order = l.in_order;
    each = λ x m. to x (l.each x m);
    all = λ x m. l.all x (from x m);
  }

  pub none_lowest : (Seen : X → Type 0) → ((x : X) → Seen x → ⊥) → AreLowest name peer Seen []
  none_lowest Seen none = record {
    in_order = tt;
    each = λ x m. absurd (no_member x m);
    all = λ x s. absurd (none x s);
  }

  -- ---- one list

  not_again : (x e : X) (xs : List X) → Ascends name (x ∷ xs) → Contains xs e → name x ≡ name e → ⊥
  not_again x e xs r m same = not_before_itself (name e) (subst (λ (k : List ℕ). IsBefore k (name e)) same (all_member (λ (y : X). IsBefore (name x) (name y)) xs e r.0 m))

  pub same_name : (xs : List X) (e f : X) → Ascends name xs → Contains xs e → Contains xs f → name e ≡ name f → e ≡ f
  same_name [] e f r m n same = absurd (no_member e m)
  same_name (x ∷ xs) e f r m n same = elim (front_or_behind x xs e m) [
    | inl is ↦ elim (front_or_behind x xs f n) [
      | inl is' ↦ sym is ∙ is'
      | inr later ↦ absurd (not_again x f xs r later (ap name is ∙ same))
    ]
    | inr later ↦ elim (front_or_behind x xs f n) [
      | inl is ↦ absurd (not_again x e xs r later (ap name is ∙ sym same))
      | inr later' ↦ same_name xs e f r.1 later later' same
    ]
  ]

  -- lists in the order of their names with the same members are one
  pub same_members : (xs ys : List X) → Ascends name xs → Ascends name ys → ((e : X) → Contains xs e → Contains ys e) → ((e : X) → Contains ys e → Contains xs e) → xs ≡ ys
  same_members [] [] r s to from = refl
  same_members [] (y ∷ ys) r s to from = absurd (no_member y (from y (at_front y ys)))
  same_members (x ∷ xs) [] r s to from = absurd (no_member x (to x (at_front x xs)))
  same_members (x ∷ xs) (y ∷ ys) r s to from =
      let first : x ≡ y = elim (front_or_behind y ys x (to x (at_front x xs))) [
        | inl is ↦ sym is
        | inr m ↦ elim (front_or_behind x xs y (from y (at_front y ys))) [
          | inl is ↦ is
          | inr n ↦ absurd (not_both (name x) (name y) (all_member (λ (f : X). IsBefore (name x) (name f)) xs y r.0 n) (all_member (λ (f : X). IsBefore (name y) (name f)) ys x s.0 m))
        ]
      ] in
      let rest : xs ≡ ys = same_members xs ys r.1 s.1
      (λ e m. elim (front_or_behind y ys e (to e (behind x xs e m))) [
        | inl is ↦ absurd (not_again x e xs r m (ap name (first ∙ is)))
        | inr n ↦ n
      ])
      (λ e m. elim (front_or_behind x xs e (from e (behind y ys e m))) [
        | inl is ↦ absurd (not_again y e ys s m (ap name (sym first ∙ is)))
        | inr n ↦ n
      ]) in
      ap₂ (λ (e : X) (es : List X). e ∷ es) first rest

  lowest_among : (Seen : X → Type 0) (xs ys : List X) → ((x y : X) → Seen x → Seen y → name x ≡ name y → peer x ≡ peer y → x ≡ y) → AreLowest name peer Seen xs → AreLowest name peer Seen ys → (e : X) → Contains xs e → Contains ys e
  lowest_among Seen xs ys one l o e m =
      let seen = l.each e m in
      let h = o.all e seen in
      let back = o.each h.low h.there in
      let g = l.all h.low back in
      let same : g.low ≡ e = same_name xs g.low e l.in_order g.there m (g.named ∙ h.named) in
      let lower : peer e ≤ peer h.low = subst (λ (x : X). peer x ≤ peer h.low) same g.lower in
      let level : peer h.low ≡ peer e = omega (arith, lower, h.lower) in
      subst (λ (x : X). Contains ys x) (one h.low e back seen h.named level) h.there

  -- where one value has a name and a peer, there is one list
  pub one_lowest : (Seen : X → Type 0) (xs ys : List X) → ((x y : X) → Seen x → Seen y → name x ≡ name y → peer x ≡ peer y → x ≡ y) → AreLowest name peer Seen xs → AreLowest name peer Seen ys → xs ≡ ys
  one_lowest Seen xs ys one l o = same_members xs ys l.in_order o.in_order (lowest_among Seen xs ys one l o) (lowest_among Seen ys xs one o l)
