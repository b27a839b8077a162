-- The bytes are the SI and the parts so far.
use Rattle.std.proofs.Common.{◌≡◌, ◌∷◌, take}
use Rattle.sfp_attribute.specs.Sfps.{hop_parts_bytes}
use Rattle.sfp_attribute.proofs.encoding.hop_value.Given as goal

abbrev pub invariant-loop-part : goal.invariant-loop-part
invariant-loop-part l = l.out ≡ l.si ∷ hop_parts_bytes (take l.part-index l.parts)
