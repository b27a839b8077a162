-- The bytes are the parameters so far.
use Rattle.std.proofs.Common.{◌≡◌, take}
use Rattle.bgp_messages.specs.Opens.{parameters_bytes}
use Rattle.bgp_messages.proofs.encoders.parameters_of.Given as goal

abbrev pub invariant-loop-param : goal.invariant-loop-param
invariant-loop-param l = l.out ≡ parameters_bytes (take l.param-index l.params)
