-- Parts of the candidates that have all that a hop names.
use Rattle.std.proofs.Common.{◌≡◌, ℕ, zero, suc, ◌<◌, ◌≤◌, Bool, true, false, cond, List, [], ◌∷◌, length, take, drop, get_or, filter, refl, sym, ◌∙◌, ap, subst, inl, inr, arith, nat_cmp, nat_lt, nat_le, Ordering, Less, Equal, Greater, zero-le, is_gt, true≢false, le_refl}
use Rattle.std.specs.Cmp.Lexicographic.{slice_cmp}
use Rattle.std.specs.Ordering.{MatchOrdering, ordering_then}
use Rattle.std.specs.List.{AllByRecursion}
use Rattle.std.specs.List.Sorted.{IsPartitionedBy}
use Rattle.std.proofs.lemmas.Bool.{cases_lt, cond-false, ltb-true, ne_eqb}
use Rattle.std.proofs.lemmas.Bool.Decides.{nat_tests}
use Rattle.std.proofs.lemmas.Cmp.{ranked}
use Rattle.sfp_attribute.specs.declared.sfps.HopPart.{HopPart}
use Rattle.sfp_attribute.specs.declared.sfps.HopPart.TheVariants as hop_part
use Rattle.sfc_routes.specs.RouteOrder.{IsBefore}
use Rattle.route_selection.specs.declared.candidates.Candidate.{Candidate}
use Rattle.route_selection.specs.Choices.{candidates, is_named, IsFrom, IsUpTo}
use Rattle.route_selection.specs.Lowest.{Ascends}
use Rattle.route_selection.specs.Usable.{name_of, peer_of}
use Rattle.route_selection.proofs.LowestLemmas.{at_places}

-- ---- types of parts

pub from_lower : (low least : ℕ) (p : HopPart) → low ≤ least → IsFrom least p → IsFrom low p
from_lower low least (hop_part.Sft kind rds) le h = omega (arith, le, h)
from_lower low least (hop_part.Other kind body) le h = tt

pub to_higher : (high most : ℕ) (p : HopPart) → most ≤ high → IsUpTo most p → IsUpTo high p
to_higher high most (hop_part.Sft kind rds) le h = omega (arith, le, h)
to_higher high most (hop_part.Other kind body) le h = tt

none_below : (low : ℕ) (inside : List HopPart) (c : Candidate) → AllByRecursion (IsFrom low) inside → c.kind < low → is_named inside c ≡ false
none_below low [] c a lt = refl
none_below low (hop_part.Sft kind rds ∷ ps) c a lt = rw (ne_eqb kind c.kind (λ e. absurd (omega (arith, a.0, lt, e)))) (none_below low ps c a.1 lt)
none_below low (hop_part.Other kind body ∷ ps) c a lt = none_below low ps c a.1 lt

none_above : (high : ℕ) (inside : List HopPart) (c : Candidate) → AllByRecursion (IsUpTo high) inside → high < c.kind → is_named inside c ≡ false
none_above high [] c a lt = refl
none_above high (hop_part.Sft kind rds ∷ ps) c a lt = rw (ne_eqb kind c.kind (λ e. absurd (omega (arith, a.0, lt, e)))) (none_above high ps c a.1 lt)
none_above high (hop_part.Other kind body ∷ ps) c a lt = none_above high ps c a.1 lt

-- ---- what a filter drops at the ends

drop_same : (p : Candidate → Bool) (xs : List Candidate) (i : ℕ) → ((j : ℕ) (d : Candidate) → j < i → j < length xs → p (get_or xs j d) ≡ false) → filter p (drop i xs) ≡ filter p xs
drop_same p [] zero none = refl
drop_same p [] (suc i) none = refl
drop_same p (x ∷ xs) zero none = refl
drop_same p (x ∷ xs) (suc i) none =
    drop_same p xs i (λ j d lt w. none (suc j) d (omega (arith, lt)) (omega (arith, w))) ∙ sym (cond-false (p x) (x ∷ filter p xs) (filter p xs) (none zero x (omega arith) (omega arith)))

take_same : (p : Candidate → Bool) (xs : List Candidate) (i : ℕ) → ((j : ℕ) (d : Candidate) → i ≤ j → j < length xs → p (get_or xs j d) ≡ false) → filter p (take i xs) ≡ filter p xs
take_same p [] zero none = refl
take_same p [] (suc i) none = refl
take_same p (x ∷ xs) zero none =
    take_same p xs zero (λ j d le w. none (suc j) d zero-le (omega (arith, w))) ∙ sym (cond-false (p x) (x ∷ filter p xs) (filter p xs) (none zero x zero-le (omega arith)))
take_same p (x ∷ xs) (suc i) none =
    ap (λ (l : List Candidate). cond (p x) (x ∷ l) l) (take_same p xs i (λ j d le w. none (suc j) d (omega (arith, le)) (omega (arith, w))))

pub drop_ascends : (xs : List Candidate) (i : ℕ) → Ascends name_of xs → Ascends name_of (drop i xs)
drop_ascends [] zero r = tt
drop_ascends [] (suc i) r = tt
drop_ascends (x ∷ xs) zero r = r
drop_ascends (x ∷ xs) (suc i) r = drop_ascends xs i r.1

-- ---- types do not fall

head_order : (a b : ℕ) (o p : Ordering) → MatchOrdering o (a < b) (a ≡ b) (b < a) → ordering_then o p ≡ Less → a ≤ b
head_order a b Less p m e = omega (arith, m)
head_order a b Equal p m e = omega (arith, m)
head_order a b Greater p m e = absurd (true≢false (ap is_gt e))

pub head_le : (a b : ℕ) (xs ys : List ℕ) → IsBefore (a ∷ xs) (b ∷ ys) → a ≤ b
head_le a b xs ys h = head_order a b (nat_cmp a b) (slice_cmp nat_cmp xs ys) (ranked a b (nat_cmp a b) refl) h

types_rise : (xs : List Candidate) → Ascends name_of xs → (i j : ℕ) (d : Candidate) → i ≤ j → j < length xs → (get_or xs i d).kind ≤ (get_or xs j d).kind
types_rise xs r i j d le w = elim (cases_lt i j) [
  | inl lt ↦ head_le (get_or xs i d).kind (get_or xs j d).kind (get_or xs i d).rd (get_or xs j d).rd (at_places name_of peer_of xs r i j d lt w)
  | inr ge ↦
      let same : i ≡ j = omega (arith, le, ge) in
      subst (λ (n : ℕ). (get_or xs i d).kind ≤ (get_or xs n d).kind) same (le_refl (get_or xs i d).kind)
]

pub below_parts : (low : ℕ) (xs : List Candidate) → Ascends name_of xs → IsPartitionedBy (λ (c : Candidate). nat_lt c.kind low) xs
below_parts low xs r i j d le w e = grind (arith, nat_tests, types_rise xs r i j d le w, e)

pub up_to_parts : (high : ℕ) (xs : List Candidate) → Ascends name_of xs → IsPartitionedBy (λ (c : Candidate). nat_le c.kind high) xs
up_to_parts high xs r i j d le w e = grind (arith, nat_tests, types_rise xs r i j d le w, e)

-- ---- the ranges

pub from_same : (low : ℕ) (xs : List Candidate) (i : ℕ) → ((j : ℕ) (d : Candidate) → 0 ≤ j → j < i → nat_lt (get_or xs j d).kind low ≡ true) → (inside : List HopPart) → AllByRecursion (IsFrom low) inside → candidates (drop i xs) inside ≡ candidates xs inside
from_same low xs i front inside a = drop_same (is_named inside) xs i (λ j d lt w. none_below low inside (get_or xs j d) a (ltb-true (get_or xs j d).kind low (front j d zero-le lt)))

pub to_same : (high : ℕ) (xs : List Candidate) (i : ℕ) → ((j : ℕ) (d : Candidate) → i ≤ j → j < length xs → nat_le (get_or xs j d).kind high ≡ false) → (inside : List HopPart) → AllByRecursion (IsUpTo high) inside → candidates (take i xs) inside ≡ candidates xs inside
to_same high xs i back inside a = take_same (is_named inside) xs i (λ j d le w. none_above high inside (get_or xs j d) a (grind (arith, nat_tests, back j d le w)))
