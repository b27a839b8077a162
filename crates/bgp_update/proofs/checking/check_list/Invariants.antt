-- The bytes are routes that were checked, and what is still to check.
use Rattle.std.proofs.Common.{length}
use Rattle.bgp_update.proofs.CheckLemmas.{RoutesSoFar}
use Rattle.bgp_update.proofs.checking.check_list.Given as goal

abbrev pub invariant-loop-rest : goal.invariant-loop-rest
invariant-loop-rest l = RoutesSoFar l.bytes l.rest

abbrev pub decreases-loop-rest : goal.decreases-loop-rest
decreases-loop-rest l = length l.rest
