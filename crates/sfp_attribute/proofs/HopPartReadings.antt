-- Two readings of the parts of a hop are one, and so is what is refused in them.
use Rattle.std.proofs.Common.{◌≡◌, ℕ, ◌+◌, ◌*◌, ◌/◌, ◌%◌, ◌<◌, List, [], ◌∷◌, ◌++◌, length, get_or, drop, refl, sym, ap, subst, ◌∙◌, inl, inr, ◌⊎◌, arith}
use Rattle.std.specs.List.{flat_map}
use Rattle.std.proofs.lemmas.List.{append-nil, length-append}
use Rattle.wire_base.specs.Numbers.{two}
use Rattle.wire_base.proofs.SplitLemmas.{Reads, same_parts, one_split}
use Rattle.sfp_attribute.specs.declared.faults.SfpFault.{SfpFault}
use Rattle.sfp_attribute.specs.declared.faults.SfpFault.TheVariants as faults
use Rattle.sfp_attribute.specs.declared.levels.Level.TheVariants as levels
use Rattle.sfp_attribute.specs.declared.sfps.HopPart.{HopPart}
use Rattle.sfp_attribute.specs.declared.sfps.HopPart.TheVariants as hop_part
use Rattle.sfp_attribute.specs.Sfps.{hop_part_kind, hop_part_value, hop_part_bytes, HopPartFits, hop_parts_bytes, HopPartsFit, RdsFit}
use Rattle.sfp_attribute.specs.Refusals.{RefusedHead, LowType, RefusedType, RefusedHopPart, RefusedHopParts}
use Rattle.sfp_attribute.specs.Steps.{Allows}
use Rattle.sfp_attribute.proofs.HeadReadings.{same_pieces, same_cut, good_head, one_head_told}

-- ---- RDs

abbrev IsRd : List ℕ → Type 0
IsRd rd = length rd ≡ 8

abbrev RdsEnd : List ℕ → Type 0
RdsEnd bytes = bytes ≡ []

same_rd : (c d r s : List ℕ) → IsRd c → IsRd d → c ++ r ≡ d ++ s → (c ≡ d) × (r ≡ s)
same_rd c d r s fc fd e = same_parts c d r s (fc ∙ sym fd) e

rd_ended : (c r : List ℕ) → IsRd c → RdsEnd (c ++ r) → ⊥
rd_ended c r f e = omega (arith, ap length e, length-append c r, f)

rds_read : Reads (λ (rd : List ℕ). rd) IsRd RdsEnd
rds_read = record { same = same_rd; ended = rd_ended }

one_rds : (cs ds : List (List ℕ)) → RdsFit cs → RdsFit ds → flat_map (λ (rd : List ℕ). rd) cs ≡ flat_map (λ (rd : List ℕ). rd) ds → cs ≡ ds
one_rds cs ds fc fd e =
    let one = one_split (λ (rd : List ℕ). rd) IsRd RdsEnd rds_read cs ds [] [] fc fd refl refl
    (append-nil (flat_map (λ (rd : List ℕ). rd) cs) ∙ e ∙ sym (append-nil (flat_map (λ (rd : List ℕ). rd) ds))) in
    one.0

rds_length : (rds : List (List ℕ)) → RdsFit rds → length (flat_map (λ (rd : List ℕ). rd) rds) ≡ 8 * length rds
rds_length [] f = refl
rds_length (c ∷ cs) f = omega (arith, length-append c (flat_map (λ (d : List ℕ). d) cs), f.0, rds_length cs f.1)

-- ---- a part

same_type : (m n : ℕ) (r s : List ℕ) → two m ++ r ≡ two n ++ s → (m ≡ n) × (r ≡ s)
same_type m n r s e =
    let high : m / 256 ≡ n / 256 = ap (λ (b : List ℕ). get_or b 0 0) e in
    let low : m % 256 ≡ n % 256 = ap (λ (b : List ℕ). get_or b 1 0) e in
    let tails : r ≡ s = ap (λ (b : List ℕ). drop 2 b) e in
    (omega (arith, high, low), tails)

one_value : (x y : HopPart) → HopPartFits x → HopPartFits y → hop_part_kind x ≡ hop_part_kind y → hop_part_value x ≡ hop_part_value y → x ≡ y
one_value (hop_part.Sft kind rds) (hop_part.Sft kind' rds') fx fy k e =
    let parts = same_type kind kind' (flat_map (λ (rd : List ℕ). rd) rds) (flat_map (λ (rd : List ℕ). rd) rds') e in
    let kinds : kind ≡ kind' = parts.0 in
    let lists : rds ≡ rds' = one_rds rds rds' fx.2 fy.2 parts.1 in
    cc
one_value (hop_part.Sft kind rds) (hop_part.Other kind' body') fx fy k e = absurd (omega (arith, k, fy.0))
one_value (hop_part.Other kind body) (hop_part.Sft kind' rds') fx fy k e = absurd (omega (arith, k, fx.0))
one_value (hop_part.Other kind body) (hop_part.Other kind' body') fx fy k e =
    let kinds : kind ≡ kind' = k in
    let bodies : body ≡ body' = e in
    cc

same_hop_part : (x y : HopPart) (r s : List ℕ) → HopPartFits x → HopPartFits y → hop_part_bytes x ++ r ≡ hop_part_bytes y ++ s → (x ≡ y) × (r ≡ s)
same_hop_part x y r s fx fy e =
    let one = same_pieces (hop_part_kind x) (hop_part_kind y) (hop_part_value x) (hop_part_value y) r s e in
    (one_value x y fx fy one.kind_is one.value_is, one.more_is)

sft_allowed : (value : List ℕ) → length value % 8 ≡ 2 → length value < 65536 → Allows levels.InHop 3 value
sft_allowed value whole size = record {
  no_mpls = λ is. elim is [ inl e ↦ omega (arith, e) | inr e ↦ omega (arith, e) ];
  in_place = λ is. elim is [ inl e ↦ omega (arith, e) | inr later ↦ elim later [ inl e ↦ omega (arith, e) | inr e ↦ omega (arith, e) ] ];
  right = λ wrong. wrong.1 whole;
  size = size;
}

-- a part that fits may stand in a hop
hop_part_allowed : (x : HopPart) → HopPartFits x → Allows levels.InHop (hop_part_kind x) (hop_part_value x)
hop_part_allowed (hop_part.Sft kind rds) f = sft_allowed (two kind ++ flat_map (λ (rd : List ℕ). rd) rds) (omega (arith, rds_length rds f.2)) f.3
hop_part_allowed (hop_part.Other kind body) f = record {
  no_mpls = λ is. elim is [ inl e ↦ omega (arith, e, f.0) | inr e ↦ omega (arith, e, f.0) ];
  in_place = λ is. elim is [ inl e ↦ omega (arith, e, f.0) | inr later ↦ elim later [ inl e ↦ omega (arith, e, f.0) | inr e ↦ omega (arith, e, f.0) ] ];
  right = λ wrong. omega (arith, wrong.0, f.0);
  size = f.2;
}

-- and its type is not too low
good_type : (x : HopPart) (value : List ℕ) (fault : SfpFault) → HopPartFits x → hop_part_kind x ≡ 3 → hop_part_value x ≡ value → LowType value fault → ⊥
good_type (hop_part.Sft kind rds) value fault f k e low =
    let parts = same_type kind low.kind (flat_map (λ (rd : List ℕ). rd) rds) low.rds (e ∙ low.spelled) in
    omega (arith, parts.0, f.0, low.low)
good_type (hop_part.Other kind body) value fault f k e low = omega (arith, k, f.0)

good_hop_part : (start : ℕ) (x : HopPart) (r : List ℕ) (fault : SfpFault) → HopPartFits x → RefusedHopPart start (hop_part_bytes x ++ r) fault → ⊥
good_hop_part start x r fault f (inl head) = good_head levels.InHop start (hop_part_kind x) (hop_part_value x) r fault (hop_part_allowed x f) head
good_hop_part start x r fault f (inr row) =
    let one = same_pieces (hop_part_kind x) 3 (hop_part_value x) row.value r row.more row.whole.parts in
    good_type x row.value fault f one.kind_is one.value_is row.row

-- ---- the parts

-- no further part, or one that is refused
abbrev HopEnd : List ℕ → Type 0
HopEnd bytes = (bytes ≡ []) ⊎ ((start : ℕ) × (fault : SfpFault) × RefusedHopPart start bytes fault)

hop_part_ended : (x : HopPart) (r : List ℕ) → HopPartFits x → HopEnd (hop_part_bytes x ++ r) → ⊥
hop_part_ended x r f (inl e) = cc
hop_part_ended x r f (inr row) = good_hop_part row.0 x r row.1 f row.2

hop_parts_read : Reads hop_part_bytes HopPartFits HopEnd
hop_parts_read = record { same = same_hop_part; ended = hop_part_ended }

one_list : (xs ys : List HopPart) (r s : List ℕ) → HopPartsFit xs → HopPartsFit ys → HopEnd r → HopEnd s → hop_parts_bytes xs ++ r ≡ hop_parts_bytes ys ++ s → (xs ≡ ys) × (r ≡ s)
one_list xs ys r s fx fy er es e = one_split hop_part_bytes HopPartFits HopEnd hop_parts_read xs ys r s fx fy er es e

-- parts that fill the same bytes are the same
pub one_hop_parts : (xs ys : List HopPart) → HopPartsFit xs → HopPartsFit ys → hop_parts_bytes xs ≡ hop_parts_bytes ys → xs ≡ ys
one_hop_parts xs ys fx fy e =
    let one = one_list xs ys [] [] fx fy (inl refl) (inl refl) (append-nil (hop_parts_bytes xs) ∙ e ∙ sym (append-nil (hop_parts_bytes ys))) in
    one.0

-- good parts hold none that is refused
pub good_hop_parts : (start : ℕ) (xs : List HopPart) (fault : SfpFault) → HopPartsFit xs → RefusedHopParts start (hop_parts_bytes xs) fault → ⊥
good_hop_parts start xs fault fits row =
    let one = one_list xs row.good [] row.bad fits row.fit (inl refl) (inr (start + length (hop_parts_bytes row.good), fault, row.first)) (append-nil (hop_parts_bytes xs) ∙ row.split) in
    omega (arith, ap length one.1, row.some)

low_allowed : (value : List ℕ) (fault : SfpFault) → length value < 65536 → LowType value fault → Allows levels.InHop 3 value
low_allowed value fault size low = sft_allowed value (omega (arith, ap length low.spelled, low.whole)) size

not_both : (start : ℕ) (bytes : List ℕ) (f g : SfpFault) → RefusedHead levels.InHop start bytes f → RefusedType bytes g → ⊥
not_both start bytes f g head row =
    good_head levels.InHop start 3 row.value row.more f (low_allowed row.value g row.whole.size row.row) (subst (λ (l : List ℕ). RefusedHead levels.InHop start l f) row.whole.parts head)

one_part_told : (start : ℕ) (bytes : List ℕ) (f g : SfpFault) → RefusedHopPart start bytes f → RefusedHopPart start bytes g → f ≡ g
one_part_told start bytes f g (inl a) (inl b) = one_head_told levels.InHop start bytes f g a b
one_part_told start bytes f g (inl a) (inr b) = absurd (not_both start bytes f g a b)
one_part_told start bytes f g (inr a) (inl b) = absurd (not_both start bytes g f b a)
one_part_told start bytes f g (inr a) (inr b) =
    let one = same_cut bytes 3 3 a.value b.value a.more b.more a.whole b.whole in
    let types = same_type a.row.kind b.row.kind a.row.rds b.row.rds (sym a.row.spelled ∙ one.value_is ∙ b.row.spelled) in
    a.row.told ∙ ap faults.SfType types.0 ∙ sym b.row.told

pub one_hop_parts_told : (start : ℕ) (bytes : List ℕ) (f g : SfpFault) → RefusedHopParts start bytes f → RefusedHopParts start bytes g → f ≡ g
one_hop_parts_told start bytes f g a b =
    let one = one_list a.good b.good a.bad b.bad a.fit b.fit (inr (start + length (hop_parts_bytes a.good), f, a.first)) (inr (start + length (hop_parts_bytes b.good), g, b.first)) (sym a.split ∙ b.split) in
    one_part_told (start + length (hop_parts_bytes b.good)) b.bad f g
    (subst (λ (l : List ℕ). RefusedHopPart (start + length (hop_parts_bytes b.good)) l f) one.1
    (subst (λ (l : List HopPart). RefusedHopPart (start + length (hop_parts_bytes l)) a.bad f) one.0 a.first))
    b.first
