-- The rows of the parts so far.
use Rattle.std.proofs.Common.{◌≡◌, take}
use Rattle.route_selection.specs.Selections.{path_rows}
use Rattle.route_selection.proofs.selected_paths.path_rows.Given as goal

abbrev pub invariant-loop-part : goal.invariant-loop-part
invariant-loop-part l = l.rows ≡ path_rows l.usable l.spi (take l.part-index l.parts)
