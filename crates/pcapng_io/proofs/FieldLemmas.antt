-- Fields in their order: none is refused where all are good.
use Rattle.std.proofs.Common.{◌≡◌, true, List, [], ◌∷◌, None, refl, sym, ◌∙◌, inl, inr}
use Rattle.std.proofs.lemmas.Bool.{cases_Bool, cond-true, cond-false}
use Rattle.pcapng_io.specs.Refusals.{Field, first_bad}
use Rattle.pcapng_io.proofs.FrontLemmas.{some_none}

abbrev pub AllGood : List Field → Type 0
AllGood [] = Unit {0}
AllGood (one ∷ others) = (one.good ≡ true) × AllGood others

pub good_none : (fields : List Field) → AllGood fields → first_bad fields ≡ None
good_none [] good = refl
good_none (one ∷ others) good = cond-true one.good (first_bad others) _ good.0 ∙ good_none others good.1

pub none_good : (fields : List Field) → first_bad fields ≡ None → AllGood fields
none_good [] none = tt
none_good (one ∷ others) none =
    elim (cases_Bool one.good) [
      | inl good ↦ (good, none_good others (sym (cond-true one.good (first_bad others) _ good) ∙ none))
      | inr bad ↦ absurd (some_none _ _ (cond-false one.good (first_bad others) _ bad) none)
    ]
