-- The first line ends at the first byte 0A.
use Rattle.std.proofs.Common.{sym, ◌∙◌}
use Rattle.text_words.specs.Lines.{lines_of}
use Rattle.text_words.proofs.LineLemmas.{lines-at, lines-whole}
use Rattle.text_words.proofs.line_cursor.split_line.Goals as goal

pub returns-in-Some : goal.returns-in-Some
returns-in-Some c = lines-at _ _ (sym c.place_of.ensures.place ∙ c.in-Some.is)

pub returns-in-None : goal.returns-in-None
unfolding lines_of
returns-in-None c = lines-whole _ c.requires (sym c.place_of.ensures.place ∙ c.in-None.is)
