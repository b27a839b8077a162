-- Each turn takes a line.
use Rattle.std.proofs.Common.{length}
use Rattle.setup_rows.proofs.whole_texts.push_lines.Given as goal

abbrev pub decreases-lines : goal.decreases-lines
decreases-lines l = length l.lines
