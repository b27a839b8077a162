-- One hop more falls, or does not.
use Rattle.route_texts.proofs.FallLemmas.{falls_more, falls_not}
use Rattle.route_texts.proofs.line_text.all_fall.Goals as goal

pub returns-then-not-falls : goal.returns-then-not-falls
returns-then-not-falls c =
    falls_not c.args.path.now c.loop-part.part-index c.part-item.result c.loop-part.bound c.loop-part-test.true c.part-item.is c.loop-part.invariant.1 c.if-not-falls.ensures

pub loop-part-preserved : goal.loop-part-preserved
loop-part-preserved c =
    falls_more c.args.path.now c.loop-part.part-index c.part-item.result c.loop-part.bound c.bound_behind-bound.result c.loop-part-test.true c.part-item.is
    c.loop-part.invariant.0 c.loop-part.invariant.1 c.if-not-falls.ensures c.bound_behind-bound.ensures
