-- The copy has the RDs so far.
use Rattle.std.proofs.Common.{◌≡◌, take}
use Rattle.sfp_attribute.proofs.copies.copy_rds.Given as goal

abbrev pub invariant-loop-rd : goal.invariant-loop-rd
invariant-loop-rd l = l.copy ≡ take l.rd-index l.rds
