-- The value is the capabilities so far, and what is still to read.
use Rattle.std.proofs.Common.{◌≡◌, ◌++◌, length}
use Rattle.std.specs.List.{flat_map}
use Rattle.bgp_messages.specs.Opens.{capability_bytes}
use Rattle.bgp_messages.proofs.contents.read_capabilities.Given as goal

abbrev pub invariant-loop-rest : goal.invariant-loop-rest
invariant-loop-rest l = l.value ≡ flat_map capability_bytes l.caps ++ l.rest

abbrev pub decreases-loop-rest : goal.decreases-loop-rest
decreases-loop-rest l = length l.rest
