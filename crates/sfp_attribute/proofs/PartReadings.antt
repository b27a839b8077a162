-- Two readings of the parts of an attribute are one, and so is what is refused in them.
use Rattle.std.proofs.Common.{◌≡◌, ℕ, ◌+◌, ◌/◌, ◌%◌, ◌<◌, ◌≤◌, List, [], ◌∷◌, ◌++◌, length, get_or, drop, refl, sym, ap, subst, ◌∙◌, append_assoc, inl, inr, ◌⊎◌, arith}
use Rattle.std.specs.List.{AllByRecursion}
use Rattle.std.proofs.lemmas.List.{length-append}
use Rattle.wire_base.specs.Numbers.{three}
use Rattle.wire_base.proofs.SplitLemmas.{same_parts}
use Rattle.sfp_attribute.specs.declared.faults.SfpFault.{SfpFault}
use Rattle.sfp_attribute.specs.declared.faults.SfpFault.TheVariants as faults
use Rattle.sfp_attribute.specs.declared.levels.Level.TheVariants as levels
use Rattle.sfp_attribute.specs.declared.sfps.Part.{Part}
use Rattle.sfp_attribute.specs.declared.sfps.Part.TheVariants as part
use Rattle.sfp_attribute.specs.Sfps.{hop_parts_bytes, part_kind, part_value, part_bytes, PartFits, parts_bytes, si_of, sis, FallFrom, PartsFit}
use Rattle.sfp_attribute.specs.Refusals.{Row, RefusedHead, RisesTo, RefusedHopParts, RefusedInside, RefusedHop, RefusedPart, last_of, RefusedParts}
use Rattle.sfp_attribute.specs.Steps.{Allows}
use Rattle.sfp_attribute.proofs.StepLemmas.{last_of-append, FallFrom-parts}
use Rattle.sfp_attribute.proofs.HeadReadings.{same_pieces, same_cut, good_head, one_row, one_head_told}
use Rattle.sfp_attribute.proofs.HopPartReadings.{one_hop_parts, good_hop_parts, one_hop_parts_told}

-- ---- a part

same_three : (m n : ℕ) → three m ≡ three n → m ≡ n
same_three m n e =
    let high : m / 65536 ≡ n / 65536 = ap (λ (b : List ℕ). get_or b 0 0) e in
    let middle : m % 65536 / 256 ≡ n % 65536 / 256 = ap (λ (b : List ℕ). get_or b 1 0) e in
    let low : m % 65536 % 256 ≡ n % 65536 % 256 = ap (λ (b : List ℕ). get_or b 2 0) e in
    omega (arith, high, middle, low)

one_value : (x y : Part) → PartFits x → PartFits y → part_kind x ≡ part_kind y → part_value x ≡ part_value y → x ≡ y
one_value (part.Association kind rd spi) (part.Association kind' rd' spi') fx fy k e =
    let kinds : kind ≡ kind' = ap (λ (l : List ℕ). get_or l 0 0) e in
    let tails : rd ++ three spi ≡ rd' ++ three spi' = ap (λ (l : List ℕ). drop 1 l) e in
    let parts = same_parts rd rd' (three spi) (three spi') (fx.1 ∙ sym fy.1) tails in
    let spis : spi ≡ spi' = same_three spi spi' parts.1 in
    let rds : rd ≡ rd' = parts.0 in
    cc
one_value (part.Hop si inside) (part.Hop si' inside') fx fy k e =
    let first : si ≡ si' = ap (λ (l : List ℕ). get_or l 0 0) e in
    let tails : hop_parts_bytes inside ≡ hop_parts_bytes inside' = ap (λ (l : List ℕ). drop 1 l) e in
    let insides : inside ≡ inside' = one_hop_parts inside inside' fx.2 fy.2 tails in
    cc
one_value (part.Other kind body) (part.Other kind' body') fx fy k e =
    let kinds : kind ≡ kind' = k in
    let bodies : body ≡ body' = e in
    cc
one_value (part.Association kind rd spi) (part.Hop si' inside') fx fy k e = absurd (omega (arith, k))
one_value (part.Association kind rd spi) (part.Other kind' body') fx fy k e = absurd (omega (arith, k, fy.0))
one_value (part.Hop si inside) (part.Association kind' rd' spi') fx fy k e = absurd (omega (arith, k))
one_value (part.Hop si inside) (part.Other kind' body') fx fy k e = absurd (omega (arith, k, fy.0))
one_value (part.Other kind body) (part.Association kind' rd' spi') fx fy k e = absurd (omega (arith, k, fx.0))
one_value (part.Other kind body) (part.Hop si' inside') fx fy k e = absurd (omega (arith, k, fx.0))

same_part : (x y : Part) (r s : List ℕ) → PartFits x → PartFits y → part_bytes x ++ r ≡ part_bytes y ++ s → (x ≡ y) × (r ≡ s)
same_part x y r s fx fy e =
    let one = same_pieces (part_kind x) (part_kind y) (part_value x) (part_value y) r s e in
    (one_value x y fx fy one.kind_is one.value_is, one.more_is)

hop_allowed : (value : List ℕ) → 1 ≤ length value → length value < 65536 → Allows levels.Top 2 value
hop_allowed value some size = record {
  no_mpls = λ is. elim is [ inl e ↦ omega (arith, e) | inr e ↦ omega (arith, e) ];
  in_place = λ is. elim is [ inl e ↦ omega (arith, e) | inr e ↦ omega (arith, e) ];
  right = λ wrong. elim wrong [ inl w ↦ omega (arith, w.0) | inr w ↦ omega (arith, w.1, some) ];
  size = size;
}

-- a part that fits may stand at the top
part_allowed : (x : Part) → PartFits x → Allows levels.Top (part_kind x) (part_value x)
part_allowed (part.Association kind rd spi) f =
    let size : length (kind ∷ rd ++ three spi) ≡ 12 = omega (arith, length-append rd (three spi), f.1) in
    record {
      no_mpls = λ is. elim is [ inl e ↦ omega (arith, e) | inr e ↦ omega (arith, e) ];
      in_place = λ is. elim is [ inl e ↦ omega (arith, e) | inr e ↦ omega (arith, e) ];
      right = λ wrong. elim wrong [ inl w ↦ w.1 size | inr w ↦ omega (arith, w.0) ];
      size = omega (arith, size);
    }
part_allowed (part.Hop si inside) f = hop_allowed (si ∷ hop_parts_bytes inside) (omega arith) f.3
part_allowed (part.Other kind body) f = record {
  no_mpls = λ is. elim is [ inl e ↦ omega (arith, e, f.0) | inr e ↦ omega (arith, e, f.0) ];
  in_place = λ is. elim is [ inl e ↦ omega (arith, e, f.0) | inr e ↦ omega (arith, e, f.0) ];
  right = λ wrong. elim wrong [ inl w ↦ omega (arith, w.0, f.0) | inr w ↦ omega (arith, w.0, f.0) ];
  size = f.2;
}

-- and what is in a hop is not refused
good_inside : (start bound : ℕ) (x : Part) (value : List ℕ) (fault : SfpFault) → PartFits x → FallFrom bound (si_of x) → part_kind x ≡ 2 → part_value x ≡ value → RefusedInside start bound value fault → ⊥
good_inside start bound (part.Association kind rd spi) value fault f falls k e row = omega (arith, k)
good_inside start bound (part.Other kind body) value fault f falls k e row = omega (arith, k, f.0)
good_inside start bound (part.Hop si inside) value fault f falls k e row =
    let joined : si ∷ hop_parts_bytes inside ≡ row.si ∷ row.inside = e ∙ row.spelled in
    let first : si ≡ row.si = ap (λ (l : List ℕ). get_or l 0 0) joined in
    let tails : hop_parts_bytes inside ≡ row.inside = ap (λ (l : List ℕ). drop 1 l) joined in
    elim row.row [
      | inl rises ↦ elim rises.0 [
        | inl none ↦ omega (arith, first, none, f.0)
        | inr above ↦ omega (arith, first, above, falls.0)
      ]
      | inr later ↦ good_hop_parts (start + 4) inside fault f.2 (subst (λ (l : List ℕ). RefusedHopParts (start + 4) l fault) (sym tails) later.1)
    ]

good_part : (start bound : ℕ) (x : Part) (r : List ℕ) (fault : SfpFault) → PartFits x → FallFrom bound (si_of x) → RefusedPart start bound (part_bytes x ++ r) fault → ⊥
good_part start bound x r fault f falls (inl head) = good_head levels.Top start (part_kind x) (part_value x) r fault (part_allowed x f) head
good_part start bound x r fault f falls (inr row) =
    let one = same_pieces (part_kind x) 2 (part_value x) row.value r row.more row.whole.parts in
    good_inside start bound x row.value fault f falls one.kind_is one.value_is row.row

-- ---- the parts

-- no further part, or one that is refused
abbrev pub PartsEnd : ℕ → List ℕ → Type 0
PartsEnd bound bytes = (bytes ≡ []) ⊎ ((start : ℕ) × (fault : SfpFault) × RefusedPart start bound bytes fault)

part_ended : (bound : ℕ) (x : Part) (r : List ℕ) → PartFits x → FallFrom bound (si_of x) → PartsEnd bound (part_bytes x ++ r) → ⊥
part_ended bound x r f falls (inl e) = cc
part_ended bound x r f falls (inr row) = good_part row.0 bound x r row.1 f falls row.2

-- parts that fit, behind a hop with the bound as its SI
record FitFrom (bound : ℕ) (ps : List Part) : Type 0 where
  each : AllByRecursion PartFits ps
  falls : FallFrom bound (sis ps)

first_falls : (bound : ℕ) (x : Part) (xs : List Part) → FitFrom bound (x ∷ xs) → FallFrom bound (si_of x)
first_falls bound x xs f =
    let both = FallFrom-parts bound (si_of x) (sis xs) f.falls in
    both.0

others_fit : (bound : ℕ) (x : Part) (xs : List Part) → FitFrom bound (x ∷ xs) → FitFrom (last_of bound (si_of x)) xs
others_fit bound x xs f =
    let both = FallFrom-parts bound (si_of x) (sis xs) f.falls in
    record { each = f.each.1; falls = both.1 }

others_end : (bound : ℕ) (x : Part) (xs : List Part) (r : List ℕ) → PartsEnd (last_of bound (sis (x ∷ xs))) r → PartsEnd (last_of (last_of bound (si_of x)) (sis xs)) r
others_end bound x xs r end = subst (λ (b : ℕ). PartsEnd b r) (last_of-append bound (si_of x) (sis xs)) end

one_list : (bound : ℕ) (xs ys : List Part) (r s : List ℕ) → FitFrom bound xs → FitFrom bound ys → PartsEnd (last_of bound (sis xs)) r → PartsEnd (last_of bound (sis ys)) s
    → parts_bytes xs ++ r ≡ parts_bytes ys ++ s → (xs ≡ ys) × (r ≡ s)
one_list bound [] [] r s fx fy er es e = (refl, e)
one_list bound [] (y ∷ ys) r s fx fy er es e =
    absurd (part_ended bound y (parts_bytes ys ++ s) fy.each.0 (first_falls bound y ys fy) (subst (PartsEnd bound) (e ∙ append_assoc (part_bytes y) (parts_bytes ys) s) er))
one_list bound (x ∷ xs) [] r s fx fy er es e =
    absurd (part_ended bound x (parts_bytes xs ++ r) fx.each.0 (first_falls bound x xs fx) (subst (PartsEnd bound) (sym e ∙ append_assoc (part_bytes x) (parts_bytes xs) r) es))
one_list bound (x ∷ xs) (y ∷ ys) r s fx fy er es e =
    let heads = same_part x y (parts_bytes xs ++ r) (parts_bytes ys ++ s) fx.each.0 fy.each.0 (sym (append_assoc (part_bytes x) (parts_bytes xs) r) ∙ e ∙ append_assoc (part_bytes y) (parts_bytes ys) s) in
    let head_is : x ≡ y = heads.0 in
    let later = subst (λ (z : Part). FitFrom (last_of bound (si_of z)) ys) (sym head_is) (others_fit bound y ys fy) in
    let end = subst (λ (z : Part). PartsEnd (last_of (last_of bound (si_of z)) (sis ys)) s) (sym head_is) (others_end bound y ys s es) in
    let tails = one_list (last_of bound (si_of x)) xs ys r s (others_fit bound x xs fx) later (others_end bound x xs r er) end heads.1 in
    let tail_is : xs ≡ ys = tails.0 in
    (cc, tails.1)

pub one_parts : (xs ys : List Part) (r s : List ℕ) → PartsFit xs → PartsFit ys → PartsEnd (last_of 256 (sis xs)) r → PartsEnd (last_of 256 (sis ys)) s
    → parts_bytes xs ++ r ≡ parts_bytes ys ++ s → (xs ≡ ys) × (r ≡ s)
one_parts xs ys r s fx fy er es e =
    one_list 256 xs ys r s (record { each = fx.each; falls = fx.falls }) (record { each = fy.each; falls = fy.falls }) er es e

-- ---- one refusal

some_in : (value : List ℕ) (si : ℕ) (inside : List ℕ) → value ≡ si ∷ inside → 1 ≤ length value
some_in value si inside e = omega (arith, ap length e)

not_both : (start bound : ℕ) (bytes : List ℕ) (f g : SfpFault) → RefusedHead levels.Top start bytes f → RefusedHop start bound bytes g → ⊥
not_both start bound bytes f g head row =
    good_head levels.Top start 2 row.value row.more f (hop_allowed row.value (some_in row.value row.row.si row.row.inside row.row.spelled) row.whole.size)
    (subst (λ (l : List ℕ). RefusedHead levels.Top start l f) row.whole.parts head)

one_inside_told : (start bound : ℕ) (value : List ℕ) (f g : SfpFault) → RefusedInside start bound value f → RefusedInside start bound value g → f ≡ g
one_inside_told start bound value f g a b =
    let joined = sym a.spelled ∙ b.spelled in
    let first : a.si ≡ b.si = ap (λ (l : List ℕ). get_or l 0 0) joined in
    let tails : a.inside ≡ b.inside = ap (λ (l : List ℕ). drop 1 l) joined in
    let row : Row (RisesTo bound b.si) (f ≡ faults.Order b.si) (RefusedHopParts (start + 4) b.inside f) =
    subst (λ (n : ℕ). Row (RisesTo bound n) (f ≡ faults.Order n) (RefusedHopParts (start + 4) b.inside f)) first
    (subst (λ (l : List ℕ). Row (RisesTo bound a.si) (f ≡ faults.Order a.si) (RefusedHopParts (start + 4) l f)) tails a.row) in
    one_row (RisesTo bound b.si) f g (faults.Order b.si) (RefusedHopParts (start + 4) b.inside f) (RefusedHopParts (start + 4) b.inside g)
    (one_hop_parts_told (start + 4) b.inside f g) row b.row

one_part_told : (start bound : ℕ) (bytes : List ℕ) (f g : SfpFault) → RefusedPart start bound bytes f → RefusedPart start bound bytes g → f ≡ g
one_part_told start bound bytes f g (inl a) (inl b) = one_head_told levels.Top start bytes f g a b
one_part_told start bound bytes f g (inl a) (inr b) = absurd (not_both start bound bytes f g a b)
one_part_told start bound bytes f g (inr a) (inl b) = absurd (not_both start bound bytes g f b a)
one_part_told start bound bytes f g (inr a) (inr b) =
    let one = same_cut bytes 2 2 a.value b.value a.more b.more a.whole b.whole in
    one_inside_told start bound b.value f g (subst (λ (v : List ℕ). RefusedInside start bound v f) one.value_is a.row) b.row

pub end_of : (bytes : List ℕ) (fault : SfpFault) (row : RefusedParts bytes fault) → PartsEnd (last_of 256 (sis row.good)) row.bad
end_of bytes fault row = inr (length (parts_bytes row.good), fault, row.first)

pub one_parts_told : (bytes : List ℕ) (f g : SfpFault) → RefusedParts bytes f → RefusedParts bytes g → f ≡ g
one_parts_told bytes f g a b =
    let one = one_parts a.good b.good a.bad b.bad a.fit b.fit (end_of bytes f a) (end_of bytes g b) (sym a.split ∙ b.split) in
    one_part_told (length (parts_bytes b.good)) (last_of 256 (sis b.good)) b.bad f g
    (subst (λ (l : List ℕ). RefusedPart (length (parts_bytes b.good)) (last_of 256 (sis b.good)) l f) one.1
    (subst (λ (l : List Part). RefusedPart (length (parts_bytes l)) (last_of 256 (sis l)) a.bad f) one.0 a.first))
    b.first
