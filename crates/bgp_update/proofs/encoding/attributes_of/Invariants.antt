-- The bytes are the attributes so far.
use Rattle.std.proofs.Common.{◌≡◌, take}
use Rattle.bgp_update.specs.Attributes.{attributes_bytes}
use Rattle.bgp_update.proofs.encoding.attributes_of.Given as goal

abbrev pub invariant-loop-attribute : goal.invariant-loop-attribute
invariant-loop-attribute l = l.out ≡ attributes_bytes (take l.attribute-index l.attributes)
