-- The hops so far are those of the other path.
use Rattle.std.proofs.Common.{◌≡◌, take}
use Rattle.table_publish.proofs.differences.same_rows.Given as goal

abbrev pub invariant-loop-i : goal.invariant-loop-i
invariant-loop-i l = take l.i l.rows ≡ take l.i l.others
