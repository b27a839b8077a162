-- The first word decides which of the two a line may be.
use Rattle.std.proofs.Common.{sym, ◌∙◌}
use Rattle.route_texts.proofs.DecisionLemmas.{line_none, line_sfir, line_sfpr}
use Rattle.route_texts.proofs.decisions.decide_line.Goals as goal

pub returns-in_default : goal.returns-in_default
returns-in_default c = line_none c.args.line.now (sym c.of-words.ensures ∙ c.in_default.ensures.0)

pub returns-then-is_text : goal.returns-then-is_text
returns-then-is_text c =
    line_sfir c.args.line.now c.in-Some.word.now c.next.new.self (sym c.of-words.ensures ∙ c.in-Some.ensures) (c.is_text.ensures.0 c.if-is_text.true) c.decide_sfir.ensures

pub returns-then-is_text-2 : goal.returns-then-is_text-2
returns-then-is_text-2 c =
    line_sfpr c.args.line.now c.in-Some.word.now c.next.new.self (sym c.of-words.ensures ∙ c.in-Some.ensures) (c.is_text-2.ensures.0 c.if-is_text-2.true) c.decide_sfpr.ensures
