-- What stands before a value is read in one way, and is refused in one way.
use Rattle.std.proofs.Common.{◌≡◌, ℕ, ◌/◌, ◌%◌, ◌<◌, List, ◌++◌, length, get_or, drop, sym, ap, subst, ◌∙◌, inl, inr, arith}
use Rattle.std.proofs.lemmas.List.{length-append}
use Rattle.wire_base.proofs.SplitLemmas.{same_parts}
use Rattle.sfp_attribute.specs.declared.faults.SfpFault.{SfpFault}
use Rattle.sfp_attribute.specs.declared.faults.SfpFault.TheVariants as faults
use Rattle.sfp_attribute.specs.declared.levels.Level.{Level}
use Rattle.sfp_attribute.specs.Sfps.{piece_bytes}
use Rattle.sfp_attribute.specs.Refusals.{Row, size_in, IsMpls, IsStray, WrongSize, BadLength, RefusedHead, Splits}
use Rattle.sfp_attribute.specs.Steps.{Allows}

pub record SameCut (kind kind' : ℕ) (value value' more more' : List ℕ) : Type 0 where
  pub kind_is : kind ≡ kind'
  pub value_is : value ≡ value'
  pub more_is : more ≡ more'

pub same_pieces : (kind kind' : ℕ) (value value' more more' : List ℕ) → piece_bytes kind value ++ more ≡ piece_bytes kind' value' ++ more' → SameCut kind kind' value value' more more'
same_pieces kind kind' value value' more more' e =
    let kind_is : kind ≡ kind' = ap (λ (l : List ℕ). get_or l 0 0) e in
    let high : length value / 256 ≡ length value' / 256 = ap (λ (l : List ℕ). get_or l 1 0) e in
    let low : length value % 256 ≡ length value' % 256 = ap (λ (l : List ℕ). get_or l 2 0) e in
    let tails : value ++ more ≡ value' ++ more' = ap (λ (l : List ℕ). drop 3 l) e in
    let parts = same_parts value value' more more' (omega (arith, high, low)) tails in
    record { kind_is = kind_is; value_is = parts.0; more_is = parts.1 }

pub same_cut : (bytes : List ℕ) (kind kind' : ℕ) (value value' more more' : List ℕ) → Splits bytes kind value more → Splits bytes kind' value' more' → SameCut kind kind' value value' more more'
same_cut bytes kind kind' value value' more more' a b = same_pieces kind kind' value value' more more' (sym a.parts ∙ b.parts)

-- what may stand here is not refused by its head
pub good_head : (level : Level) (start kind : ℕ) (value more : List ℕ) (fault : SfpFault) → Allows level kind value → RefusedHead level start (piece_bytes kind value ++ more) fault → ⊥
good_head level start kind value more fault allowed (inl short) = omega (arith, short.0)
good_head level start kind value more fault allowed (inr (_, inl mpls)) = allowed.no_mpls mpls.0
good_head level start kind value more fault allowed (inr (_, inr (_, inl stray))) = allowed.in_place stray.0
good_head level start kind value more fault allowed (inr (_, inr (_, inr (_, (inl past, _))))) = omega (arith, past, length-append value more)
good_head level start kind value more fault allowed (inr (_, inr (_, inr (_, (inr wrong, _))))) =
    let size : size_in (piece_bytes kind value ++ more) ≡ length value = omega arith in
    allowed.right (subst (WrongSize level kind) size wrong)

-- of two faults that the first row that holds tells, both are one
pub one_row : (Holds : Type 0) (f g told : SfpFault) (LaterF LaterG : Type 0) → (LaterF → LaterG → f ≡ g) → Row Holds (f ≡ told) LaterF → Row Holds (g ≡ told) LaterG → f ≡ g
one_row Holds f g told LaterF LaterG later (inl a) (inl b) = a.1 ∙ sym b.1
one_row Holds f g told LaterF LaterG later (inl a) (inr b) = absurd (b.0 a.0)
one_row Holds f g told LaterF LaterG later (inr a) (inl b) = absurd (a.0 b.0)
one_row Holds f g told LaterF LaterG later (inr a) (inr b) = later a.1 b.1

abbrev LengthRow : Level → ℕ → List ℕ → SfpFault → Type 0
LengthRow level start bytes fault = BadLength level bytes × (fault ≡ faults.Length start)

abbrev KindRows : Level → ℕ → List ℕ → SfpFault → Type 0
KindRows level start bytes fault = Row (IsStray level (get_or bytes 0 0)) (fault ≡ faults.Kind (get_or bytes 0 0)) (LengthRow level start bytes fault)

abbrev MplsRows : Level → ℕ → List ℕ → SfpFault → Type 0
MplsRows level start bytes fault = Row (IsMpls (get_or bytes 0 0)) (fault ≡ faults.Mpls (get_or bytes 0 0)) (KindRows level start bytes fault)

pub one_head_told : (level : Level) (start : ℕ) (bytes : List ℕ) (f g : SfpFault) → RefusedHead level start bytes f → RefusedHead level start bytes g → f ≡ g
one_head_told level start bytes f g a b =
    one_row (length bytes < 3) f g (faults.Short start) (MplsRows level start bytes f) (MplsRows level start bytes g)
    (one_row (IsMpls (get_or bytes 0 0)) f g (faults.Mpls (get_or bytes 0 0)) (KindRows level start bytes f) (KindRows level start bytes g)
    (one_row (IsStray level (get_or bytes 0 0)) f g (faults.Kind (get_or bytes 0 0)) (LengthRow level start bytes f) (LengthRow level start bytes g)
    (λ x y. x.1 ∙ sym y.1)))
    a b
