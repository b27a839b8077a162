-- The value has the capabilities so far.
use Rattle.std.proofs.Common.{◌≡◌, take}
use Rattle.std.specs.List.{flat_map}
use Rattle.bgp_messages.specs.Opens.{capability_bytes}
use Rattle.bgp_messages.proofs.encoders.value_of.Given as goal

abbrev pub invariant-loop-capability : goal.invariant-loop-capability
invariant-loop-capability l = l.value ≡ flat_map capability_bytes (take l.capability-index l.caps)
