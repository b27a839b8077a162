-- What was read is all that the bytes can be read as.
use Rattle.std.proofs.Common.{ℕ, List, Ok, Err}
use Rattle.std.specs.Prelude.{Result}
use Rattle.bgp_update.specs.declared.updates.Update.{Update}
use Rattle.bgp_update.specs.declared.faults.UpdateFault.{UpdateFault}
use Rattle.bgp_update.specs.declared.faults.UpdateFault.TheVariants as faults
use Rattle.bgp_update.specs.Updates.{IsUpdate}
use Rattle.bgp_update.specs.Refusals.{Refused}
use Rattle.bgp_update.specs.Steps.{UpdateGives, GivesThe, TellsThe, Exact}
use Rattle.bgp_update.proofs.UpdateReadings.{one_update, never_both, one_refusal}

gives : (bytes : List ℕ) (result : Result Update UpdateFault) → UpdateGives bytes result → (u : Update) → IsUpdate bytes u → GivesThe u result
gives bytes (Ok given) reads u is = one_update bytes given u reads is
gives bytes (Err (faults.Session code subcode place)) reads u is = absurd (never_both bytes u place is reads.2)
gives bytes (Err faults.OutOfMemory) reads u is = tt

tells : (bytes : List ℕ) (result : Result Update UpdateFault) → UpdateGives bytes result → (place : ℕ) → Refused bytes place → TellsThe place result
tells bytes (Ok given) reads place refused = never_both bytes given place reads refused
tells bytes (Err (faults.Session code subcode told)) reads place refused = (reads.0, reads.1, one_refusal bytes told place reads.2 refused)
tells bytes (Err faults.OutOfMemory) reads place refused = tt

pub exactly : (bytes : List ℕ) (result : Result Update UpdateFault) → UpdateGives bytes result → Exact bytes result
exactly bytes result reads = record { update = gives bytes result reads; refusal = tells bytes result reads }
