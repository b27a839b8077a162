-- the paths before the place are of the roster
use Rattle.std.proofs.Common.{ℕ, ◌<◌, slice_index_or}
use Rattle.path_selection.specs.Paths.{ServicePath}
use Rattle.record_text.specs.Tables.{PathNames}
use Rattle.record_rows.proofs.table_rows.names_table.Given as goal

abbrev pub invariant-loop-i : goal.invariant-loop-i
invariant-loop-i l = (k : ℕ) (d : ServicePath) → k < l.i → PathNames l.roster (slice_index_or l.table k d)
