use Rattle.std.proofs.Common.{length}
use Rattle.path_selection.proofs.searches.+falls_below.Given as goal

abbrev pub decreases-falls_below : goal.decreases-falls_below
decreases-falls_below l = length l.rows.now
