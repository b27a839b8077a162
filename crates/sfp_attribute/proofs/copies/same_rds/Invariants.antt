-- The RDs so far are those of the other list.
use Rattle.std.proofs.Common.{◌≡◌, take}
use Rattle.sfp_attribute.proofs.copies.same_rds.Given as goal

abbrev pub invariant-loop-i : goal.invariant-loop-i
invariant-loop-i l = take l.i l.rds ≡ take l.i l.others
