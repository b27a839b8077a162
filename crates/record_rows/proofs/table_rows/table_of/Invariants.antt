-- Each turn takes a word.
use Rattle.std.proofs.Common.{length}
use Rattle.record_rows.proofs.table_rows.table_of.Given as goal

abbrev pub decreases-words : goal.decreases-words
decreases-words l = length l.words
