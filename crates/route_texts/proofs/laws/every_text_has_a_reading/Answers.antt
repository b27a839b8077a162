-- A line is decided, and then the text behind it.
use Rattle.std.proofs.Common.{length}
use Rattle.route_texts.proofs.RunLemmas.{some_left, none_left}
use Rattle.route_texts.proofs.TakesLemmas.{readable_none, readable_last, readable_more, reading_of}
use Rattle.route_texts.proofs.laws.every_text_has_a_reading.Goals as goal

pub returns-in_default : goal.returns-in_default
returns-in_default c =
    reading_of c.args.text.now (c.lines.invariant (readable_last c.lines.rest.now c.in_default.ensures (some_left (length c.lines.rest.now) c.lines-test.ensures)))

pub lines-preserved : goal.lines-preserved
lines-preserved c = λ rest.
    c.lines.invariant (readable_more c.lines.rest.now c.in-Some.line.now c.in-Some.behind.now c.in-Some.ensures.0 c.in-Some.ensures.1 c.decide_line.ensures rest)

pub returns : goal.returns
returns c = reading_of c.args.text.now (c.lines.invariant (readable_none c.lines.rest.now (none_left c.lines.rest.now c.lines-test.ensures)))
