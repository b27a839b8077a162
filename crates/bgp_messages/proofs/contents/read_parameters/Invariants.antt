-- The bytes are the parameters so far, and what is still to read.
use Rattle.std.proofs.Common.{◌≡◌, ◌++◌, length}
use Rattle.bgp_messages.specs.Opens.{parameters_bytes}
use Rattle.bgp_messages.proofs.contents.read_parameters.Given as goal

abbrev pub invariant-loop-rest : goal.invariant-loop-rest
invariant-loop-rest l = l.bytes ≡ parameters_bytes l.params ++ l.rest

abbrev pub decreases-loop-rest : goal.decreases-loop-rest
decreases-loop-rest l = length l.rest
