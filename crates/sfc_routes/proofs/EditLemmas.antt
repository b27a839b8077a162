-- What becomes of a list in order where a route is taken out, joins or is replaced.
use Rattle.std.proofs.Common.{◌≡◌, ℕ, zero, suc, ◌+◌, ◌<◌, ◌≤◌, true, false, List, [], ◌∷◌, ◌++◌, length, take, drop, get_or, slice_set, sym, ◌∙◌, ap, subst, inl, inr, Contains, arith, nat_cmp, is_lt}
use Rattle.std.specs.List.{AllByRecursion, insert, remove}
use Rattle.std.specs.Cmp.Lexicographic.{slice_cmp}
use Rattle.std.proofs.lemmas.Bool.{cases_order}
use Rattle.std.proofs.lemmas.List.{set_split, take-append-drop, get_or-take, get_or-drop, get_or_default, length-drop}
use Rattle.std.proofs.lemmas.List.Elements.{Contains-append_left, Contains-append_right, Contains-append_cases}
use Rattle.bgp_update.specs.declared.routes.Nlri.{Nlri}
use Rattle.sfc_routes.specs.PeerRoutes.{PeerRoute, RouteFits, IsOf}
use Rattle.sfc_routes.specs.RouteOrder.{key, key_of, IsBefore, InOrder}
use Rattle.sfc_routes.specs.RouteLists.{IsRouteList, IsThere, Loses, IsOther, Puts}
use Rattle.sfc_routes.proofs.MemberLemmas.{at_front, behind, front_or_behind, all_join, all_front, all_back, all_member, all_from_members, parts_at}
use Rattle.sfc_routes.proofs.OrderLemmas.{less_from, not_before_itself, before_since, named_by, key_named, front_in_order, back_in_order, joined, at_places}

-- the place of some numbers: the routes in front come before them, and the others do not
pub record IsPlace (k : List ℕ) (xs : List PeerRoute) (i : ℕ) : Type 0 where
  pub within : i ≤ length xs
  pub front : (j : ℕ) (d : PeerRoute) → j < i → is_lt (slice_cmp nat_cmp (key_of (get_or xs j d)) k) ≡ true
  pub back : (j : ℕ) (d : PeerRoute) → i ≤ j → j < length xs → is_lt (slice_cmp nat_cmp (key_of (get_or xs j d)) k) ≡ false

same_key : (a b : PeerRoute) → IsOf a.peer a.route.nlri b → key_of b ≡ key_of a
same_key a b is = key_named a.peer a.route.nlri b is

turn : (a b : PeerRoute) → IsOf a.peer a.route.nlri b → IsOf b.peer b.route.nlri a
turn a b is = record { of_peer = sym is.of_peer; named = sym is.named }

-- ---- where a route stands between others

-- those in front have other names
front_other : (front rest : List PeerRoute) (x e : PeerRoute) → InOrder (front ++ x ∷ rest) → Contains front e → key_of e ≡ key_of x → ⊥
front_other (y ∷ front) rest x e r m same = elim (front_or_behind y front e m) [
  | inl is ↦
      let before = all_member (λ (f : PeerRoute). IsBefore (key_of y) (key_of f)) (front ++ x ∷ rest) x r.0 (Contains-append_right front (x ∷ rest) x (at_front x rest)) in
      not_before_itself (key_of x) (subst (λ (k : List ℕ). IsBefore k (key_of x)) (ap key_of is ∙ same) before)
  | inr more ↦ front_other front rest x e r.1 more same
]
front_other [] rest x e r m same = absurd (omega (arith, m.1))

-- and so have those behind
rest_other : (front rest : List PeerRoute) (x e : PeerRoute) → InOrder (front ++ x ∷ rest) → Contains rest e → key_of e ≡ key_of x → ⊥
rest_other front rest x e r m same =
    let before = all_member (λ (f : PeerRoute). IsBefore (key_of x) (key_of f)) rest e (back_in_order front (x ∷ rest) r).0 m in
    not_before_itself (key_of x) (subst (λ (k : List ℕ). IsBefore (key_of x) k) same before)

across : (xs ys : List PeerRoute) → InOrder (xs ++ ys) → (a b : PeerRoute) → Contains xs a → Contains ys b → IsBefore (key_of a) (key_of b)
across [] ys r a b m n = absurd (omega (arith, m.1))
across (x ∷ xs) ys r a b m n = elim (front_or_behind x xs a m) [
  | inl is ↦ subst (λ (e : PeerRoute). IsBefore (key_of e) (key_of b)) is (all_member (λ (f : PeerRoute). IsBefore (key_of x) (key_of f)) (xs ++ ys) b r.0 (Contains-append_right xs ys b n))
  | inr more ↦ across xs ys r.1 a b more n
]

-- ---- the route at a place is taken out

cut_order : (front rest : List PeerRoute) (x : PeerRoute) → InOrder (front ++ x ∷ rest) → InOrder (front ++ rest)
cut_order front rest x r = joined front rest (front_in_order front (x ∷ rest) r) (back_in_order front (x ∷ rest) r).1 (λ a b m n. across front (x ∷ rest) r a b m (behind x rest b n))

cut_fits : (front rest : List PeerRoute) (x : PeerRoute) → AllByRecursion (λ (e : PeerRoute). RouteFits e.route) (front ++ x ∷ rest) → AllByRecursion (λ (e : PeerRoute). RouteFits e.route) (front ++ rest)
cut_fits front rest x a = all_join (λ (e : PeerRoute). RouteFits e.route) front rest (all_front (λ (e : PeerRoute). RouteFits e.route) front (x ∷ rest) a) (all_back (λ (e : PeerRoute). RouteFits e.route) front (x ∷ rest) a).1

cut_loses : (front rest : List PeerRoute) (x : PeerRoute) (peer : ℕ) (nlri : Nlri) → InOrder (front ++ x ∷ rest) → IsOf peer nlri x → Loses (IsOf peer nlri) (front ++ x ∷ rest) (front ++ rest)
cut_loses front rest x peer nlri r is e = (
  λ m. elim (Contains-append_cases front rest e m) [
    | inl left ↦ (Contains-append_left front (x ∷ rest) e left, λ of. front_other front rest x e r left (key_named peer nlri e of ∙ sym (key_named peer nlri x is)))
    | inr right ↦ (Contains-append_right front (x ∷ rest) e (behind x rest e right), λ of. rest_other front rest x e r right (key_named peer nlri e of ∙ sym (key_named peer nlri x is)))
  ],
  λ h. elim (Contains-append_cases front (x ∷ rest) e h.0) [
    | inl left ↦ Contains-append_left front rest e left
    | inr right ↦ elim (front_or_behind x rest e right) [
      | inl same ↦ absurd (h.1 (subst (IsOf peer nlri) same is))
      | inr more ↦ Contains-append_right front rest e more
    ]
  ],
)

pub remove_keeps : (xs : List PeerRoute) (i peer : ℕ) (nlri : Nlri) (d : PeerRoute) → IsRouteList xs → IsThere xs i peer nlri → IsRouteList (remove xs i)
remove_keeps xs i peer nlri d l at =
    let split = parts_at xs i d at.0 in
    record {
      in_order = cut_order (take i xs) (drop (suc i) xs) (get_or xs i d) (subst InOrder split l.in_order);
      routes_fit = cut_fits (take i xs) (drop (suc i) xs) (get_or xs i d) (subst (AllByRecursion (λ (e : PeerRoute). RouteFits e.route)) split l.routes_fit);
    }

pub remove_loses : (xs : List PeerRoute) (i peer : ℕ) (nlri : Nlri) (d : PeerRoute) → IsRouteList xs → IsThere xs i peer nlri → Loses (IsOf peer nlri) xs (remove xs i)
remove_loses xs i peer nlri d l at =
    let split = parts_at xs i d at.0 in
    subst (λ (old : List PeerRoute). Loses (IsOf peer nlri) old (remove xs i)) (sym split)
    (cut_loses (take i xs) (drop (suc i) xs) (get_or xs i d) peer nlri (subst InOrder split l.in_order) (at.1 d))

-- ---- no route at the place has the name, so none has

pub absent : (xs : List PeerRoute) (i peer : ℕ) (nlri : Nlri) → InOrder xs → IsPlace (key peer nlri) xs i → (IsThere xs i peer nlri → ⊥) → (e : PeerRoute) → Contains xs e → IsOf peer nlri e → ⊥
absent xs i peer nlri r place none e m of =
    let k = key peer nlri in
    let same : key_of (get_or xs m.0 e) ≡ k = ap key_of m.2 ∙ key_named peer nlri e of in
    elim (cases_order m.0 i) [
      | inl at ↦
          let there : i < length xs = subst (λ (n : ℕ). n < length xs) at m.1 in
          let is : get_or xs i e ≡ e = subst (λ (n : ℕ). get_or xs n e ≡ e) at m.2 in
          none (there, λ d. subst (IsOf peer nlri) (sym (get_or_default xs i d e there ∙ is)) of)
      | inr (inl before) ↦ not_before_itself k (subst (λ (q : List ℕ). IsBefore q k) same (less_from (slice_cmp nat_cmp (key_of (get_or xs m.0 e)) k) (place.front m.0 e before)))
      | inr (inr after) ↦
          let less : IsBefore (key_of (get_or xs i e)) k = subst (λ (q : List ℕ). IsBefore (key_of (get_or xs i e)) q) same (at_places xs r i m.0 e after m.1) in
          let later = place.back i e (omega arith) (omega (arith, after, m.1)) in
          absurd (cc)
    ]

pub absent_loses : (xs : List PeerRoute) (i peer : ℕ) (nlri : Nlri) → InOrder xs → IsPlace (key peer nlri) xs i → (IsThere xs i peer nlri → ⊥) → Loses (IsOf peer nlri) xs xs
absent_loses xs i peer nlri r place none e = (λ m. (m, absent xs i peer nlri r place none e m), λ h. h.0)

-- ---- a route joins

in_take : (ys : List PeerRoute) (n j : ℕ) → j < length (take n ys) → j < n
in_take ys zero j h = absurd (omega (arith, h))
in_take [] (suc n) j h = absurd (omega (arith, h))
in_take (y ∷ ys) (suc n) zero h = omega arith
in_take (y ∷ ys) (suc n) (suc j) h = omega (arith, in_take ys n j (omega (arith, h)))

front_before : (k : List ℕ) (xs : List PeerRoute) (i : ℕ) → IsPlace k xs i → (e : PeerRoute) → Contains (take i xs) e → IsBefore (key_of e) k
front_before k xs i place e m =
    let j = m.0 in
    let before : j < i = in_take xs i j m.1 in
    let is : get_or xs j e ≡ e = sym (get_or-take i xs j e before) ∙ m.2 in
    subst (λ (f : PeerRoute). IsBefore (key_of f) k) is (less_from (slice_cmp nat_cmp (key_of (get_or xs j e)) k) (place.front j e before))

in_drop : (ys : List PeerRoute) (n j : ℕ) → j < length (drop n ys) → n + j < length ys
in_drop ys n j h = omega (arith, h, length-drop n ys)

back_behind : (k : List ℕ) (xs : List PeerRoute) (i : ℕ) → IsPlace k xs i → (e : PeerRoute) → Contains (drop i xs) e → (key_of e ≡ k → ⊥) → IsBefore k (key_of e)
back_behind k xs i place e m unlike =
    let j = m.0 in
    let is : get_or xs (i + j) e ≡ e = sym (get_or-drop i xs j e) ∙ m.2 in
    let later = place.back (i + j) e (omega arith) (in_drop xs i j m.1) in
    before_since (key_of e) k (subst (λ (f : PeerRoute). is_lt (slice_cmp nat_cmp (key_of f) k) ≡ false) is later) unlike

member : (xs : List PeerRoute) (i : ℕ) (e : PeerRoute) → Contains (take i xs ++ drop i xs) e → Contains xs e
member xs i e m = subst (λ (l : List PeerRoute). Contains l e) (take-append-drop i xs) m

join_order : (xs : List PeerRoute) (i : ℕ) (one : PeerRoute) → InOrder xs → IsPlace (key_of one) xs i → ((e : PeerRoute) → Contains xs e → IsOf one.peer one.route.nlri e → ⊥) → InOrder (take i xs ++ one ∷ drop i xs)
join_order xs i one r place none =
    let whole : InOrder (take i xs ++ drop i xs) = subst InOrder (sym (take-append-drop i xs)) r in
    let behind_one : (e : PeerRoute) → Contains (drop i xs) e → IsBefore (key_of one) (key_of e) =
    λ e m. back_behind (key_of one) xs i place e m (λ same. none e (member xs i e (Contains-append_right (take i xs) (drop i xs) e m)) (named_by one.peer one.route.nlri e same)) in
    joined (take i xs) (one ∷ drop i xs) (front_in_order (take i xs) (drop i xs) whole)
    (all_from_members (λ (f : PeerRoute). IsBefore (key_of one) (key_of f)) (drop i xs) behind_one, back_in_order (take i xs) (drop i xs) whole)
    (λ a b m n. elim (front_or_behind one (drop i xs) b n) [
      | inl is ↦ subst (λ (e : PeerRoute). IsBefore (key_of a) (key_of e)) is (front_before (key_of one) xs i place a m)
      | inr more ↦ across (take i xs) (drop i xs) whole a b m more
    ])

pub insert_keeps : (xs : List PeerRoute) (i : ℕ) (one : PeerRoute) → IsRouteList xs → RouteFits one.route → IsPlace (key_of one) xs i → (IsThere xs i one.peer one.route.nlri → ⊥) → IsRouteList (insert xs i one)
insert_keeps xs i one l fits place none =
    let P : PeerRoute → Type 0 = λ e. RouteFits e.route in
    let all : AllByRecursion P (take i xs ++ drop i xs) = subst (AllByRecursion P) (sym (take-append-drop i xs)) l.routes_fit in
    record {
      in_order = join_order xs i one l.in_order place (absent xs i one.peer one.route.nlri l.in_order place none);
      routes_fit = all_join P (take i xs) (one ∷ drop i xs) (all_front P (take i xs) (drop i xs) all) (fits, all_back P (take i xs) (drop i xs) all);
    }

pub insert_puts : (xs : List PeerRoute) (i : ℕ) (one : PeerRoute) → InOrder xs → IsPlace (key_of one) xs i → (IsThere xs i one.peer one.route.nlri → ⊥) → Puts one xs (insert xs i one)
insert_puts xs i one r place none e =
    let other : Contains xs e → IsOther e one = λ m is. absent xs i one.peer one.route.nlri r place none e m (turn e one is) in (
      λ m. elim (Contains-append_cases (take i xs) (one ∷ drop i xs) e m) [
        | inl left ↦ let old = member xs i e (Contains-append_left (take i xs) (drop i xs) e left) in inr (old, other old)
        | inr right ↦ elim (front_or_behind one (drop i xs) e right) [
          | inl is ↦ inl is
          | inr more ↦ let old = member xs i e (Contains-append_right (take i xs) (drop i xs) e more) in inr (old, other old)
        ]
      ],
      λ h. elim h [
        | inl is ↦ Contains-append_right (take i xs) (one ∷ drop i xs) e (subst (Contains (one ∷ drop i xs)) is (at_front one (drop i xs)))
        | inr old ↦ elim (Contains-append_cases (take i xs) (drop i xs) e (subst (λ (l : List PeerRoute). Contains l e) (sym (take-append-drop i xs)) old.0)) [
          | inl left ↦ Contains-append_left (take i xs) (one ∷ drop i xs) e left
          | inr right ↦ Contains-append_right (take i xs) (one ∷ drop i xs) e (behind one (drop i xs) e right)
        ]
      ],
    )

-- ---- a route is replaced

swap_order : (front rest : List PeerRoute) (x one : PeerRoute) → key_of x ≡ key_of one → InOrder (front ++ x ∷ rest) → InOrder (front ++ one ∷ rest)
swap_order front rest x one same r =
    let back = back_in_order front (x ∷ rest) r in
    joined front (one ∷ rest) (front_in_order front (x ∷ rest) r)
    (subst (λ (k : List ℕ). AllByRecursion (λ (f : PeerRoute). IsBefore k (key_of f)) rest) same back.0, back.1)
    (λ a b m n. elim (front_or_behind one rest b n) [
      | inl is ↦ subst (λ (k : List ℕ). IsBefore (key_of a) k) (same ∙ ap key_of is) (across front (x ∷ rest) r a x m (at_front x rest))
      | inr more ↦ across front (x ∷ rest) r a b m (behind x rest b more)
    ])

swap_puts : (front rest : List PeerRoute) (x one : PeerRoute) → IsOf one.peer one.route.nlri x → InOrder (front ++ x ∷ rest) → Puts one (front ++ x ∷ rest) (front ++ one ∷ rest)
swap_puts front rest x one of r e =
    let same : IsOf e.peer e.route.nlri one → key_of e ≡ key_of x = λ is. sym (same_key e one is) ∙ sym (same_key one x of) in (
      λ m. elim (Contains-append_cases front (one ∷ rest) e m) [
        | inl left ↦ inr (Contains-append_left front (x ∷ rest) e left, λ is. front_other front rest x e r left (same is))
        | inr right ↦ elim (front_or_behind one rest e right) [
          | inl is ↦ inl is
          | inr more ↦ inr (Contains-append_right front (x ∷ rest) e (behind x rest e more), λ is. rest_other front rest x e r more (same is))
        ]
      ],
      λ h. elim h [
        | inl is ↦ Contains-append_right front (one ∷ rest) e (subst (Contains (one ∷ rest)) is (at_front one rest))
        | inr old ↦ elim (Contains-append_cases front (x ∷ rest) e old.0) [
          | inl left ↦ Contains-append_left front (one ∷ rest) e left
          | inr right ↦ elim (front_or_behind x rest e right) [
            | inl is ↦ absurd (old.1 (turn one e (subst (IsOf one.peer one.route.nlri) is of)))
            | inr more ↦ Contains-append_right front (one ∷ rest) e (behind one rest e more)
          ]
        ]
      ],
    )

pub set_keeps : (xs : List PeerRoute) (i : ℕ) (one : PeerRoute) → IsRouteList xs → RouteFits one.route → IsThere xs i one.peer one.route.nlri → IsRouteList (slice_set xs i one)
set_keeps xs i one l fits at =
    let P : PeerRoute → Type 0 = λ e. RouteFits e.route in
    let split = parts_at xs i one at.0 in
    let all = subst (AllByRecursion P) split l.routes_fit in
    subst IsRouteList (sym (set_split xs i one at.0)) (record {
      in_order = swap_order (take i xs) (drop (suc i) xs) (get_or xs i one) one (same_key one (get_or xs i one) (at.1 one)) (subst InOrder split l.in_order);
      routes_fit = all_join P (take i xs) (one ∷ drop (suc i) xs) (all_front P (take i xs) (get_or xs i one ∷ drop (suc i) xs) all) (fits, (all_back P (take i xs) (get_or xs i one ∷ drop (suc i) xs) all).1);
    })

pub set_puts : (xs : List PeerRoute) (i : ℕ) (one : PeerRoute) → InOrder xs → IsThere xs i one.peer one.route.nlri → Puts one xs (slice_set xs i one)
set_puts xs i one r at =
    let split = parts_at xs i one at.0 in
    subst (λ (new : List PeerRoute). Puts one xs new) (sym (set_split xs i one at.0))
    (subst (λ (old : List PeerRoute). Puts one old (take i xs ++ one ∷ drop (suc i) xs)) (sym split)
    (swap_puts (take i xs) (drop (suc i) xs) (get_or xs i one) one (at.1 one) (subst InOrder split r)))
