use Rattle.std.proofs.Common.{subst, arith, All}
use Rattle.std.proofs.lemmas.List.{take_all}
use Rattle.std.proofs.lemmas.List.Elements.{All-more}
use Rattle.table_publish.specs.Settling.{HasSeen}
use Rattle.table_publish.proofs.windows.settle_each.Goals as goal

pub loop-seat-preserved : goal.loop-seat-preserved
loop-seat-preserved c =
    All-more (HasSeen c.args.sealed.now.log) c.args.seats.now c.loop-seat.seat-index c.seat-item.result c.loop-seat-test.true c.loop-seat.invariant (subst (HasSeen c.args.sealed.now.log) c.seat-item.is c.settle.ensures)

pub returns : goal.returns
returns c = subst (All (HasSeen c.args.sealed.now.log)) (take_all c.loop-seat.seat-index c.args.seats.now (omega (arith, c.loop-seat-test.false))) c.loop-seat.invariant
