-- Two readings of one value are one: an attribute, or one refusal of it.
use Rattle.std.proofs.Common.{◌≡◌, ℕ, List, [], length, refl, sym, ap, ◌∙◌, inl, inr, arith}
use Rattle.std.proofs.lemmas.List.{append-nil}
use Rattle.sfp_attribute.specs.declared.faults.SfpFault.{SfpFault}
use Rattle.sfp_attribute.specs.declared.sfps.Part.{Part}
use Rattle.sfp_attribute.specs.declared.sfps.Sfp.{Sfp}
use Rattle.sfp_attribute.specs.Sfps.{parts_bytes, sis, PartsFit, IsSfp}
use Rattle.sfp_attribute.specs.Refusals.{RefusedParts, Refused}
use Rattle.sfp_attribute.proofs.PartReadings.{one_parts, end_of, one_parts_told}

whole_parts : (value : List ℕ) (xs ys : List Part) → PartsFit xs → PartsFit ys → value ≡ parts_bytes xs → value ≡ parts_bytes ys → xs ≡ ys
whole_parts value xs ys fx fy x y =
    let one = one_parts xs ys [] [] fx fy (inl refl) (inl refl) (append-nil (parts_bytes xs) ∙ sym x ∙ y ∙ sym (append-nil (parts_bytes ys))) in
    one.0

-- parts that fill the value hold none that is refused
whole_or_refused : (value : List ℕ) (xs : List Part) (fault : SfpFault) → PartsFit xs → value ≡ parts_bytes xs → RefusedParts value fault → ⊥
whole_or_refused value xs fault fits spelled row =
    let one = one_parts xs row.good [] row.bad fits row.fit (inl refl) (end_of value fault row) (append-nil (parts_bytes xs) ∙ sym spelled ∙ row.split) in
    omega (arith, ap length one.1, row.some)

pub one_value : (value : List ℕ) (s t : Sfp) → IsSfp value s → IsSfp value t → s ≡ t
one_value value s t a b =
    let parts_are : s.parts ≡ t.parts = whole_parts value s.parts t.parts a.fits.parts b.fits.parts a.spelled b.spelled in
    let made : (ps : List Part) → Sfp = λ ps. record { parts = ps } in
    let whole : made s.parts ≡ made t.parts = ap made parts_are in
    whole

pub never_both : (value : List ℕ) (s : Sfp) (fault : SfpFault) → IsSfp value s → Refused value fault → ⊥
never_both value s fault is (inl row) = whole_or_refused value s.parts fault is.fits.parts is.spelled row
never_both value s fault is (inr row) =
    let parts_are : s.parts ≡ row.good = whole_parts value s.parts row.good is.fits.parts row.fit is.spelled row.spelled in
    is.fits.some (ap sis parts_are ∙ row.none)

pub one_refusal : (value : List ℕ) (f g : SfpFault) → Refused value f → Refused value g → f ≡ g
one_refusal value f g (inl a) (inl b) = one_parts_told value f g a b
one_refusal value f g (inl a) (inr b) = absurd (whole_or_refused value b.good f b.fit b.spelled a)
one_refusal value f g (inr a) (inl b) = absurd (whole_or_refused value a.good g a.fit a.spelled b)
one_refusal value f g (inr a) (inr b) = a.told ∙ sym b.told
