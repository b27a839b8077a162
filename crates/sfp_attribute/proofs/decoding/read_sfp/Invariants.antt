-- The value is the parts so far, and what is still to read.
use Rattle.std.proofs.Common.{length}
use Rattle.sfp_attribute.proofs.StepLemmas.{ReadSoFar}
use Rattle.sfp_attribute.proofs.decoding.read_sfp.Given as goal

abbrev pub invariant-loop-rest : goal.invariant-loop-rest
invariant-loop-rest l = ReadSoFar l.value l.parts l.rest l.bound

abbrev pub decreases-loop-rest : goal.decreases-loop-rest
decreases-loop-rest l = length l.rest
