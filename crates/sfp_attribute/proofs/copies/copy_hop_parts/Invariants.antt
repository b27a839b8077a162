-- The copy has the parts so far.
use Rattle.std.proofs.Common.{◌≡◌, take}
use Rattle.sfp_attribute.proofs.copies.copy_hop_parts.Given as goal

abbrev pub invariant-loop-part : goal.invariant-loop-part
invariant-loop-part l = l.copy ≡ take l.part-index l.parts
