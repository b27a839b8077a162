-- those before the place are of the roster
use Rattle.std.proofs.Common.{ℕ, ◌<◌, slice_index_or}
use Rattle.path_selection.specs.declared.hops.HopRow.{HopRow}
use Rattle.record_text.specs.Tables.{ChoiceNames}
use Rattle.record_rows.proofs.table_rows.names_hops.Given as goal

abbrev pub invariant-loop-row : goal.invariant-loop-row
invariant-loop-row l = (k : ℕ) (d : HopRow) → k < l.row-index → ChoiceNames l.roster (slice_index_or l.rows k d).choice
