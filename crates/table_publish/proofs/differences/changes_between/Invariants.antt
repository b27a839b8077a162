-- So far the new table's first paths stand before what is left of the old table.
use Rattle.std.proofs.Common.{◌+◌, ◌-◌, length}
use Rattle.table_publish.specs.Differences.{Brings}
use Rattle.table_publish.proofs.differences.changes_between.Given as goal

abbrev pub invariant-loop-at : goal.invariant-loop-at
invariant-loop-at l = Brings l.old l.new l.at.gone l.at.made l.changes

abbrev pub decreases-loop-at : goal.decreases-loop-at
decreases-loop-at l = length l.old + length l.new - (l.at.gone + l.at.made)
