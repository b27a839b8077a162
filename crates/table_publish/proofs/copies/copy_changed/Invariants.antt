-- The copy has the changes so far.
use Rattle.std.proofs.Common.{◌≡◌, take}
use Rattle.table_publish.specs.Publications.{changed_by}
use Rattle.table_publish.proofs.copies.copy_changed.Given as goal

abbrev pub invariant-loop-change : goal.invariant-loop-change
invariant-loop-change l = l.copy ≡ changed_by l.table (take l.change-index l.changes)
