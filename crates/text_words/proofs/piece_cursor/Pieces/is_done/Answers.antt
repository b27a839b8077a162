-- A text that was not taken whole has a piece.
use Rattle.text_words.proofs.PieceLemmas.{done_or_not}
use Rattle.text_words.proofs.piece_cursor.Pieces.is_done.Goals as goal

pub returns : goal.returns
returns c = done_or_not _ _ _ _ c.self.view_is c.is_none.ensures
