-- The empty text has no lines.
use Rattle.std.proofs.Common.{sym, ◌∙◌}
use Rattle.text_words.proofs.LineLemmas.{lines-none, same_byte}
use Rattle.text_words.proofs.line_cursor.TextLines.next.Goals as goal

pub returns-then-is_empty : goal.returns-then-is_empty
returns-then-is_empty c =
    let none = sym c.self.view_is ∙ lines-none c.self.inside.rest.now (same_byte _ _ (sym c.if-is_empty.ensures)) in
    (none, none)
