-- What was read is all that the value can be read as.
use Rattle.std.proofs.Common.{ℕ, List, Ok, Err, inl, inr}
use Rattle.std.specs.Prelude.{Result}
use Rattle.sfp_attribute.specs.declared.faults.SfpFault.{SfpFault}
use Rattle.sfp_attribute.specs.declared.sfps.Sfp.{Sfp}
use Rattle.sfp_attribute.specs.Sfps.{IsSfp}
use Rattle.sfp_attribute.specs.Refusals.{Refused}
use Rattle.sfp_attribute.specs.Steps.{SfpGives, GivesThe, TellsThe, Exact}
use Rattle.sfp_attribute.proofs.SfpReadings.{one_value, never_both, one_refusal}

gives : (value : List ℕ) (result : Result Sfp SfpFault) → SfpGives value result → (s : Sfp) → IsSfp value s → GivesThe s result
gives value (Ok given) reads s is = one_value value given s reads is
gives value (Err fault) (inl none) s is = none
gives value (Err fault) (inr refused) s is = absurd (never_both value s fault is refused)

tells : (value : List ℕ) (result : Result Sfp SfpFault) → SfpGives value result → (fault : SfpFault) → Refused value fault → TellsThe fault result
tells value (Ok given) reads fault refused = never_both value given fault reads refused
tells value (Err told) (inl none) fault refused = inl none
tells value (Err told) (inr row) fault refused = inr (one_refusal value told fault row refused)

pub exactly : (value : List ℕ) (result : Result Sfp SfpFault) → SfpGives value result → Exact value result
exactly value result reads = record { sfp = gives value result reads; refusal = tells value result reads }
