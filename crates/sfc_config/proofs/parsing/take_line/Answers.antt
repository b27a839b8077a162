-- A statement that is placed or refused says so of its line.
use Rattle.std.proofs.Common.{sym, ◌∙◌}
use Rattle.sfc_config.proofs.PlacingLemmas.{taken_as_placed}
use Rattle.sfc_config.proofs.parsing.take_line.Goals as goal

pub returns-in-Ok : goal.returns-in-Ok
returns-in-Ok c =
    taken_as_placed _ _ _ _ _ (record { printable = c.is_printable.ensures.0 c.if-not-is_printable.false; kept = sym c.is_skipped.ensures ∙ c.if-is_skipped.false })
    c.in-Ok.ensures c.place_statement.ensures
