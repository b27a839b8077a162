-- The bytes are the parts so far, and what is still to read.
use Rattle.std.proofs.Common.{◌≡◌, ◌++◌, length}
use Rattle.sfp_attribute.specs.Sfps.{hop_parts_bytes, HopPartsFit}
use Rattle.sfp_attribute.proofs.hop_parts.read_hop_parts.Given as goal

abbrev pub invariant-loop-rest : goal.invariant-loop-rest
invariant-loop-rest l = (l.bytes ≡ hop_parts_bytes l.parts ++ l.rest) × HopPartsFit l.parts

abbrev pub decreases-loop-rest : goal.decreases-loop-rest
decreases-loop-rest l = length l.rest
