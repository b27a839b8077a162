-- Each turn takes a piece.
use Rattle.std.proofs.Common.{length}
use Rattle.setup_rows.proofs.read_words.pieces_row.Given as goal

abbrev pub decreases-pieces : goal.decreases-pieces
decreases-pieces l = length l.pieces
