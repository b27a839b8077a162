-- The first word decides.
use Rattle.std.proofs.Common.{sym, ◌∙◌}
use Rattle.route_texts.proofs.LineLemmas.{found_sfir, found_sfpr}
use Rattle.route_texts.proofs.line_text.read_line.Goals as goal

pub returns-then-is_text : goal.returns-then-is_text
returns-then-is_text c =
    found_sfir c.args.line.now c.in-Some.word.now c.next.new.self c.read_sfir.result (sym c.of-words.ensures ∙ c.in-Some.ensures) (c.is_text.ensures.0 c.if-is_text.true) c.read_sfir.ensures

pub returns-then-is_text-2 : goal.returns-then-is_text-2
returns-then-is_text-2 c =
    found_sfpr c.args.line.now c.in-Some.word.now c.next.new.self c.read_sfpr.result (sym c.of-words.ensures ∙ c.in-Some.ensures) (c.is_text-2.ensures.0 c.if-is_text-2.true) c.read_sfpr.ensures
