-- The first piece ends at the first mark.
use Rattle.std.proofs.Common.{sym, ◌∙◌}
use Rattle.text_words.proofs.PieceLemmas.{pieces-at, pieces-whole}
use Rattle.text_words.proofs.piece_cursor.split_piece.Goals as goal

pub returns-in-Some : goal.returns-in-Some
returns-in-Some c = pieces-at _ _ _ (sym c.place_of.ensures.place ∙ c.in-Some.is)

pub returns-in-None : goal.returns-in-None
returns-in-None c = pieces-whole _ _ (sym c.place_of.ensures.place ∙ c.in-None.is)
