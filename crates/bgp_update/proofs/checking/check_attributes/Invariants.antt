-- The bytes are attributes that were checked, and what is still to check.
use Rattle.std.proofs.Common.{length}
use Rattle.bgp_update.proofs.CheckLemmas.{AttributesSoFar}
use Rattle.bgp_update.proofs.checking.check_attributes.Given as goal

abbrev pub invariant-loop-rest : goal.invariant-loop-rest
invariant-loop-rest l = AttributesSoFar l.bytes l.rest l.seen

abbrev pub decreases-loop-rest : goal.decreases-loop-rest
decreases-loop-rest l = length l.rest
