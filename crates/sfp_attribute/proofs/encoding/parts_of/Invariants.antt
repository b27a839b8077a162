-- The bytes are the parts so far.
use Rattle.std.proofs.Common.{◌≡◌, take}
use Rattle.sfp_attribute.specs.Sfps.{parts_bytes}
use Rattle.sfp_attribute.proofs.encoding.parts_of.Given as goal

abbrev pub invariant-loop-part : goal.invariant-loop-part
invariant-loop-part l = l.out ≡ parts_bytes (take l.part-index l.parts)
