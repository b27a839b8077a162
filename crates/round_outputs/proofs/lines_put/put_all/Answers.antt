-- The line of one record more, or a front of the lines.
use Rattle.std.proofs.Common.{◌≡◌, true, ◌+◌, List, Ok, length, take, drop, get_or, sym, subst, arith}
use Rattle.sfc_desk.specs.declared.ports.Port.{Port}
use Rattle.std.proofs.lemmas.List.{take_all}
use Rattle.worker_run.specs.Batches.{Carried}
use Rattle.record_text.specs.Lines.{ended_line}
use Rattle.round_outputs.specs.RoundOutputs.{Puts}
use Rattle.round_outputs.proofs.BatchLemmas.{lines_about, lines_more, lines_of, no_frame}
use Rattle.round_outputs.proofs.PutLemmas.{puts_failed, puts_nothing, puts_then}
use Rattle.round_outputs.proofs.lines_put.put_all.Goals as goal

pub loop-i-init : goal.loop-i-init
loop-i-init g c = puts_nothing g.D.Desk.tells (g.D.Desk.at c.args.desk.now) (g.D.Desk.held c.args.desk.now) c.args.lines.now tt c.requires.bound

pub put_line-requires-clause-bound : goal.put_line-requires-clause-bound
put_line-requires-clause-bound g c = subst (λ (p : Port). (g.D.Desk.at c.loop-i.desk p).bound ≡ true) (sym c.loop-i.invariant.port) c.loop-i.invariant.moves.still_bound

pub returns-in-Err : goal.returns-in-Err
returns-in-Err g c =
    puts_failed g.D.Desk.tells (g.D.Desk.at c.args.desk.now) (g.D.Desk.at c.loop-i.desk) (g.D.Desk.at c.put_line.new.desk) (g.D.Desk.held c.args.desk.now) (g.D.Desk.held c.loop-i.desk) (g.D.Desk.held c.put_line.new.desk)
    c.args.lines.now c.loop-i.lines c.put_line.new.lines tt c.in-Err.fault (lines_of c.args.roster.now c.args.place (take c.loop-i.i c.args.batch.now)) (ended_line c.args.roster.now (c.args.place + c.loop-i.i, (get_or c.args.batch.now c.loop-i.i no_frame).outcome)) (lines_of c.args.roster.now (c.args.place + length (take (c.loop-i.i + 1) c.args.batch.now)) (drop (c.loop-i.i + 1) c.args.batch.now)) _ (lines_about c.args.roster.now c.args.place c.args.batch.now c.loop-i.i no_frame (omega (arith, c.loop-i-test.true, c.len-i-end.ensures))) c.loop-i.invariant (c.in-Err.ensures no_frame)

pub loop-i-preserved : goal.loop-i-preserved
loop-i-preserved g c =
    subst (Puts g.D.Desk.tells (g.D.Desk.at c.args.desk.now) (g.D.Desk.at c.put_line.new.desk) (g.D.Desk.held c.args.desk.now) (g.D.Desk.held c.put_line.new.desk) c.args.lines.now c.put_line.new.lines (Ok tt))
    (lines_more c.args.roster.now c.args.place c.args.batch.now c.loop-i.i no_frame (omega (arith, c.loop-i-test.true, c.len-i-end.ensures)))
    (puts_then g.D.Desk.tells (g.D.Desk.at c.args.desk.now) (g.D.Desk.at c.loop-i.desk) (g.D.Desk.at c.put_line.new.desk) (g.D.Desk.held c.args.desk.now) (g.D.Desk.held c.loop-i.desk) (g.D.Desk.held c.put_line.new.desk)
    c.args.lines.now c.loop-i.lines c.put_line.new.lines tt (Ok tt) (lines_of c.args.roster.now c.args.place (take c.loop-i.i c.args.batch.now)) (ended_line c.args.roster.now (c.args.place + c.loop-i.i, (get_or c.args.batch.now c.loop-i.i no_frame).outcome)) c.loop-i.invariant (c.in_default.ensures no_frame))

pub returns : goal.returns
returns g c =
    let whole : take c.loop-i.i c.args.batch.now ≡ c.args.batch.now = take_all c.loop-i.i c.args.batch.now (omega (arith, c.loop-i-test.false, c.len-i-end.ensures)) in
    subst (λ (l : List Carried). Puts g.D.Desk.tells (g.D.Desk.at c.args.desk.now) (g.D.Desk.at c.loop-i.desk) (g.D.Desk.held c.args.desk.now) (g.D.Desk.held c.loop-i.desk) c.args.lines.now c.loop-i.lines (Ok tt) (lines_of c.args.roster.now c.args.place l)) whole c.loop-i.invariant
