-- The total is that of the parts so far.
use Rattle.std.proofs.Common.{◌≡◌, take, length, min}
use Rattle.sfp_attribute.specs.Sfps.{parts_bytes}
use Rattle.route_texts.proofs.sizes.parts_size.Given as goal

abbrev pub invariant-loop-part : goal.invariant-loop-part
invariant-loop-part l = l.total ≡ min 65536 (length (parts_bytes (take l.part-index l.parts)))
