-- The bytes are the attributes so far, and what is still to read.
use Rattle.std.proofs.Common.{◌≡◌, ◌++◌, length}
use Rattle.bgp_update.specs.Attributes.{attributes_bytes}
use Rattle.bgp_update.specs.Updates.{AttributesFit}
use Rattle.bgp_update.proofs.decoding.read_attributes.Given as goal

abbrev pub invariant-loop-rest : goal.invariant-loop-rest
invariant-loop-rest l = (l.bytes ≡ attributes_bytes l.attributes ++ l.rest) × AttributesFit l.attributes

abbrev pub decreases-loop-rest : goal.decreases-loop-rest
decreases-loop-rest l = length l.rest
