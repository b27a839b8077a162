-- The packet of one frame more, or a front of the packets.
use Rattle.std.proofs.Common.{◌≡◌, true, ◌+◌, List, Ok, take, drop, get_or, sym, subst, arith}
use Rattle.sfc_desk.specs.declared.ports.Port.{Port}
use Rattle.std.proofs.lemmas.List.{take_all}
use Rattle.worker_run.specs.Batches.{Carried}
use Rattle.worker_run.specs.Outputs.{packet_out, packets_out}
use Rattle.round_outputs.specs.RoundOutputs.{Puts}
use Rattle.round_outputs.proofs.BatchLemmas.{no_frame, packets_about, packets_more}
use Rattle.round_outputs.proofs.PutLemmas.{puts_failed, puts_nothing, puts_then}
use Rattle.round_outputs.proofs.packets_put.put_all.Goals as goal

pub loop-i-init : goal.loop-i-init
loop-i-init g c = puts_nothing g.D.Desk.tells (g.D.Desk.at c.args.desk.now) (g.D.Desk.held c.args.desk.now) c.args.egress.now tt c.requires.bound

pub put_left-requires-clause-bound : goal.put_left-requires-clause-bound
put_left-requires-clause-bound g c = subst (λ (p : Port). (g.D.Desk.at c.loop-i.desk p).bound ≡ true) (sym c.loop-i.invariant.port) c.loop-i.invariant.moves.still_bound

pub returns-in-Err : goal.returns-in-Err
returns-in-Err g c =
    puts_failed g.D.Desk.tells (g.D.Desk.at c.args.desk.now) (g.D.Desk.at c.loop-i.desk) (g.D.Desk.at c.put_left.new.desk) (g.D.Desk.held c.args.desk.now) (g.D.Desk.held c.loop-i.desk) (g.D.Desk.held c.put_left.new.desk)
    c.args.egress.now c.loop-i.egress c.put_left.new.egress tt c.in-Err.fault (packets_out c.args.form (take c.loop-i.i c.args.batch.now)) (packet_out c.args.form (get_or c.args.batch.now c.loop-i.i no_frame)) (packets_out c.args.form (drop (c.loop-i.i + 1) c.args.batch.now)) _ (packets_about c.args.form c.args.batch.now c.loop-i.i no_frame (omega (arith, c.loop-i-test.true, c.len-i-end.ensures))) c.loop-i.invariant (c.in-Err.ensures no_frame)

pub loop-i-preserved : goal.loop-i-preserved
loop-i-preserved g c =
    subst (Puts g.D.Desk.tells (g.D.Desk.at c.args.desk.now) (g.D.Desk.at c.put_left.new.desk) (g.D.Desk.held c.args.desk.now) (g.D.Desk.held c.put_left.new.desk) c.args.egress.now c.put_left.new.egress (Ok tt))
    (packets_more c.args.form c.args.batch.now c.loop-i.i no_frame (omega (arith, c.loop-i-test.true, c.len-i-end.ensures)))
    (puts_then g.D.Desk.tells (g.D.Desk.at c.args.desk.now) (g.D.Desk.at c.loop-i.desk) (g.D.Desk.at c.put_left.new.desk) (g.D.Desk.held c.args.desk.now) (g.D.Desk.held c.loop-i.desk) (g.D.Desk.held c.put_left.new.desk)
    c.args.egress.now c.loop-i.egress c.put_left.new.egress tt (Ok tt) (packets_out c.args.form (take c.loop-i.i c.args.batch.now)) (packet_out c.args.form (get_or c.args.batch.now c.loop-i.i no_frame)) c.loop-i.invariant (c.in_default.ensures no_frame))

pub returns : goal.returns
returns g c =
    let whole : take c.loop-i.i c.args.batch.now ≡ c.args.batch.now = take_all c.loop-i.i c.args.batch.now (omega (arith, c.loop-i-test.false, c.len-i-end.ensures)) in
    subst (λ (l : List Carried). Puts g.D.Desk.tells (g.D.Desk.at c.args.desk.now) (g.D.Desk.at c.loop-i.desk) (g.D.Desk.held c.args.desk.now) (g.D.Desk.held c.loop-i.desk) c.args.egress.now c.loop-i.egress (Ok tt) (packets_out c.args.form l)) whole c.loop-i.invariant
