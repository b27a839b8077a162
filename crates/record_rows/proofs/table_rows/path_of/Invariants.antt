-- Each turn takes a part.
use Rattle.std.proofs.Common.{length}
use Rattle.record_rows.proofs.table_rows.path_of.Given as goal

abbrev pub decreases-parts : goal.decreases-parts
decreases-parts l = length l.parts
