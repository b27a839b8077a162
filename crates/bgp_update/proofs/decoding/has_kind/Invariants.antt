-- None of the attributes so far is of the kind.
use Rattle.std.proofs.Common.{◌≡◌, take}
use Rattle.bgp_update.specs.Updates.{count_of}
use Rattle.bgp_update.proofs.decoding.has_kind.Given as goal

abbrev pub invariant-loop-attribute : goal.invariant-loop-attribute
invariant-loop-attribute l = count_of l.kind (take l.attribute-index l.attributes) ≡ 0
