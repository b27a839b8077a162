-- Fields in their order: what follows where none is refused, and that bytes behind a field change nothing of it.
use Rattle.std.proofs.Common.{◌≡◌, ◌≤◌, ◌+◌, ℕ, true, false, List, [], ◌∷◌, ◌++◌, length, take, drop, get_or, Option, None, Some, refl, sym, ap, ◌∙◌, subst, inl, inr, arith}
use Rattle.std.specs.Prelude.{Contains, nat_lt, nat_le, ◌==◌, ◌≢◌, ◌||◌}
use Rattle.std.proofs.lemmas.Bool.{cases_Bool, cases_lt, cond-true, cond-false, lt-ltb, le-ltb, le-leb, leb-true, eq-eqb, eqb-true, and_parts, and_from, or_left, or_right, or_cases, cases_eq}
use Rattle.std.proofs.lemmas.List.{get_or_append_left, length-append, length-drop, take-append-le, drop-append-le}
use Rattle.std.proofs.lemmas.List.Folds.{Any-from_list_any, list_any_at}
use Rattle.wire_base.specs.Numbers.{big_endian}
use Rattle.control_files.specs.declared.segments.Mark.{Mark}
use Rattle.control_files.specs.declared.reasons.Refusal.{Refusal}
use Rattle.control_files.specs.Segments.{IsKind}
use Rattle.control_files.specs.Refusals.{told, Field, fields, first_bad, refusal_of, is_kind, is_peer, is_length, kind_at, peer_at, moment_at, position_at, length_at}

-- ---- some fields

abbrev pub AllGood : List Field → Type 0
AllGood [] = Unit {0}
AllGood (field ∷ others) = (field.good ≡ true) × AllGood others

-- all of them are there
abbrev pub AllThere : ℕ → List Field → Type 0
AllThere size [] = Unit {0}
AllThere size (field ∷ others) = (field.end ≤ size) × AllThere size others

pub good_none : (place size : ℕ) (all : List Field) → AllGood all → first_bad place size all ≡ None
good_none place size [] good = refl
good_none place size (field ∷ others) good =
    elim (cases_Bool (nat_lt size field.end)) [
      | inl short ↦ cond-true (nat_lt size field.end) _ _ short
      | inr there ↦ cond-false (nat_lt size field.end) _ _ there ∙ cond-true field.good _ _ good.0 ∙ good_none place size others good.1
    ]

pub some_none : (r : Refusal) (o : Option Refusal) → o ≡ Some r → o ≡ None → ⊥
some_none r o is none = cc

pub none_good : (place size : ℕ) (all : List Field) → AllThere size all → first_bad place size all ≡ None → AllGood all
none_good place size [] there none = tt
none_good place size (field ∷ others) there none =
    let here : nat_lt size field.end ≡ false = le-ltb size field.end there.0 in
    elim (cases_Bool field.good) [
      | inl good ↦ (good, none_good place size others there.1 (sym (cond-false (nat_lt size field.end) _ _ here ∙ cond-true field.good _ _ good) ∙ none))
      | inr bad ↦ absurd (some_none _ _ (cond-false (nat_lt size field.end) _ _ here ∙ cond-false field.good _ _ bad) none)
    ]

-- the same fields, of which those that are there are as good
abbrev pub Same : ℕ → List Field → List Field → Type 0
Same size [] [] = Unit {0}
Same size [] (g ∷ gs) = ⊥
Same size (f ∷ fs) [] = ⊥
Same size (f ∷ fs) (g ∷ gs) = (f.at ≡ g.at) × (f.end ≡ g.end) × (f.reason ≡ g.reason) × (f.end ≤ size → f.good ≡ g.good) × Same size fs gs

bad_more : (place size more : ℕ) (f g : Field) (fs gs : List Field) (t : Refusal) → size ≤ more → (f.at ≡ g.at) × (f.end ≡ g.end) × (f.reason ≡ g.reason) × (f.end ≤ size → f.good ≡ g.good) × Unit {0}
    → (first_bad place size fs ≡ Some t → first_bad place more gs ≡ Some t) → first_bad place size (f ∷ fs) ≡ Some t → first_bad place more (g ∷ gs) ≡ Some t
bad_more place size more f g fs gs t longer same later bad =
    elim (cases_lt size f.end) [
      | inl short ↦ absurd (some_none t _ bad (cond-true (nat_lt size f.end) _ _ (lt-ltb size f.end short)))
      | inr there ↦
          let short : nat_lt size f.end ≡ false = le-ltb size f.end there in
          let long : nat_lt more g.end ≡ false = le-ltb more g.end (let e = same.1 in omega (arith, e, there, longer)) in
          let good : f.good ≡ g.good = same.3 there in
          elim (cases_Bool f.good) [
            | inl is ↦
                cond-false (nat_lt more g.end) _ _ long ∙ cond-true g.good _ _ (sym good ∙ is)
                ∙ later (sym (cond-false (nat_lt size f.end) _ _ short ∙ cond-true f.good _ _ is) ∙ bad)
            | inr not ↦
                cond-false (nat_lt more g.end) _ _ long ∙ cond-false g.good _ _ (sym good ∙ not)
                ∙ ap (λ n. Some (told (place + n) g.reason)) (sym same.0) ∙ ap (λ r. Some (told (place + f.at) r)) (sym same.2)
                ∙ sym (cond-false (nat_lt size f.end) _ _ short ∙ cond-false f.good _ _ not) ∙ bad
          ]
    ]

pub some_more : (place size more : ℕ) (fs gs : List Field) (t : Refusal) → size ≤ more → Same size fs gs → first_bad place size fs ≡ Some t → first_bad place more gs ≡ Some t
some_more place size more [] [] t longer same bad = bad
some_more place size more [] (g ∷ gs) t longer same bad = absurd same
some_more place size more (f ∷ fs) [] t longer same bad = absurd same
some_more place size more (f ∷ fs) (g ∷ gs) t longer same bad =
    bad_more place size more f g fs gs t longer (same.0, same.1, same.2, same.3, tt) (λ b. some_more place size more fs gs t longer same.4 b) bad

-- ---- the tests

pub kind_true : (kind : ℕ) → IsKind kind → is_kind kind ≡ true
kind_true kind is = and_from (nat_le 1 kind) (nat_le kind 3) (le-leb 1 kind is.0) (le-leb kind 3 is.1)

pub true_kind : (kind : ℕ) → is_kind kind ≡ true → IsKind kind
true_kind kind is =
    let parts = and_parts (nat_le 1 kind) (nat_le kind 3) is in
    (leb-true 1 kind parts.0, leb-true kind 3 parts.1)

pub peer_true : (peers : List ℕ) (number : ℕ) → Contains peers number → is_peer peers number ≡ true
peer_true peers number is =
    list_any_at (λ peer. peer == number) peers is.0 number is.1 (eq-eqb (get_or peers is.0 number) number is.2)

pub true_peer : (peers : List ℕ) (number : ℕ) → is_peer peers number ≡ true → Contains peers number
true_peer peers number is =
    let some = Any-from_list_any (λ peer. peer == number) peers is in
    let same : some.1 ≡ number = eqb-true some.1 number some.4 in
    (some.0, some.2, subst (λ n. get_or peers some.0 n ≡ n) same some.3)

pub length_true : (kind size : ℕ) → size ≤ 65535 → (kind ≢ 2 → size ≡ 0) → is_length kind size ≡ true
length_true kind size most bare =
    and_from (nat_le size 65535) (kind == 2 || size == 0) (le-leb size 65535 most)
    (elim (cases_eq kind 2) [
      | inl two ↦ or_left (kind == 2) (size == 0) (eq-eqb kind 2 two)
      | inr other ↦ or_right (kind == 2) (size == 0) (eq-eqb size 0 (bare other))
    ])

pub true_most : (kind size : ℕ) → is_length kind size ≡ true → size ≤ 65535
true_most kind size is = leb-true size 65535 (and_parts (nat_le size 65535) (kind == 2 || size == 0) is).0

pub true_bare : (kind size : ℕ) → is_length kind size ≡ true → kind ≢ 2 → size ≡ 0
true_bare kind size is other =
    elim (or_cases (kind == 2) (size == 0) (and_parts (nat_le size 65535) (kind == 2 || size == 0) is).1) [
      | inl two ↦ absurd (other (eqb-true kind 2 two))
      | inr none ↦ eqb-true size 0 none
    ]

-- ---- a field is the same with more behind it

field_more : (at n : ℕ) (bytes more : List ℕ) → at + n ≤ length bytes → take n (drop at (bytes ++ more)) ≡ take n (drop at bytes)
field_more at n bytes more there =
    ap (take n) (drop-append-le at bytes more (omega (arith, there)))
    ∙ take-append-le n (drop at bytes) more (omega (arith, there, length-drop at bytes))

kind_more : (bytes more : List ℕ) → 1 ≤ length bytes → kind_at (bytes ++ more) ≡ kind_at bytes
kind_more bytes more there = get_or_append_left bytes more 0 0 (omega (arith, there))

same_more : (peers : List ℕ) (mark : Mark) (bytes more : List ℕ) → Same (length bytes) (fields peers mark bytes) (fields peers mark (bytes ++ more))
same_more peers mark bytes more =
    let peer : 3 ≤ length bytes → peer_at (bytes ++ more) ≡ peer_at bytes = λ there. ap big_endian (field_more 1 2 bytes more there) in
    let moment : 11 ≤ length bytes → moment_at (bytes ++ more) ≡ moment_at bytes = λ there. ap big_endian (field_more 3 8 bytes more there) in
    let position : 19 ≤ length bytes → position_at (bytes ++ more) ≡ position_at bytes = λ there. ap big_endian (field_more 11 8 bytes more there) in
    let size : 23 ≤ length bytes → length_at (bytes ++ more) ≡ length_at bytes = λ there. ap big_endian (field_more 19 4 bytes more there) in (
      refl,
      refl,
      refl,
      (λ there. ap is_kind (sym (kind_more bytes more there))),
      (
        refl,
        refl,
        refl,
        (λ there. ap (is_peer peers) (sym (peer there))),
        (
          refl,
          refl,
          refl,
          (λ there. ap (nat_le mark.moment) (sym (moment there))),
          (
            refl,
            refl,
            refl,
            (λ there. ap (nat_le mark.position) (sym (position there))),
            (
              refl,
              refl,
              refl,
              (λ there. ap (λ k. is_length k (length_at bytes)) (sym (kind_more bytes more (omega (arith, there)))) ∙ ap (is_length (kind_at (bytes ++ more))) (sym (size there))),
              tt,
            ),
          ),
        ),
      ),
    )

pub refusal_more : (peers : List ℕ) (mark : Mark) (place : ℕ) (bytes more : List ℕ) (t : Refusal) → refusal_of peers mark place bytes ≡ Some t → refusal_of peers mark place (bytes ++ more) ≡ Some t
unfolding refusal_of
refusal_more peers mark place bytes more t bad =
    some_more place (length bytes) (length (bytes ++ more)) (fields peers mark bytes) (fields peers mark (bytes ++ more)) t
    (omega (arith, length-append bytes more)) (same_more peers mark bytes more) bad
