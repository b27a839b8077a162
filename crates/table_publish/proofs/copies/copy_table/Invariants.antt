-- The copy has the paths so far.
use Rattle.std.proofs.Common.{◌≡◌, take}
use Rattle.table_publish.proofs.copies.copy_table.Given as goal

abbrev pub invariant-loop-i : goal.invariant-loop-i
invariant-loop-i l = l.copy ≡ take l.i l.table
