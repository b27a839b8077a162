-- One packet more, or a front of the packets.
use Rattle.std.proofs.Common.{[], ◌+◌, ◌<◌, Ok, Err, length, arith}
use Rattle.std.proofs.lemmas.List.Elements.{All-nil}
use Rattle.wire_base.specs.Numbers.{AreBytes}
use Rattle.round_outputs.proofs.PutLemmas.{puts_nothing}
use Rattle.frame_traces.proofs.TraceLemmas.{walk_goes_on}
use Rattle.frame_traces.proofs.traces_put.put_walk.Goals as goal

pub loop-k-init : goal.loop-k-init
loop-k-init g c = record {
  are_bytes = All-nil AreBytes;
  puts = puts_nothing g.D.Desk.tells (g.D.Desk.at c.args.desk.now) (g.D.Desk.held c.args.desk.now) c.args.trace.now tt c.requires.bound;
}

pub returns-in-Err : goal.returns-in-Err
returns-in-Err g c =
    let below : c.loop-k.k < length c.args.work.now.packets = omega (arith, c.loop-k-test.true, c.trace_len-k-end.ensures) in
    let on =
    walk_goes_on g.D.Desk.tells (g.D.Desk.at c.args.desk.now) (g.D.Desk.at c.loop-k.desk) (g.D.Desk.at c.put_handed.new.desk) (g.D.Desk.held c.args.desk.now) (g.D.Desk.held c.loop-k.desk) (g.D.Desk.held c.put_handed.new.desk) c.args.trace.now c.loop-k.trace c.put_handed.new.trace tt (Err c.in-Err.fault)
    c.args.form c.args.times.0 c.args.times.1 c.args.missing c.args.work.now.packets c.loop-k.k c.trace.result.now below (c.trace.ensures []) c.in-Err.ensures.are_bytes c.loop-k.invariant.are_bytes c.loop-k.invariant.puts c.in-Err.ensures.puts in
    record { count = c.loop-k.k + 1; are_bytes = on.are_bytes; all = tt; puts = on.puts }

pub loop-k-preserved : goal.loop-k-preserved
loop-k-preserved g c =
    let below : c.loop-k.k < length c.args.work.now.packets = omega (arith, c.loop-k-test.true, c.trace_len-k-end.ensures) in
    walk_goes_on g.D.Desk.tells (g.D.Desk.at c.args.desk.now) (g.D.Desk.at c.loop-k.desk) (g.D.Desk.at c.put_handed.new.desk) (g.D.Desk.held c.args.desk.now) (g.D.Desk.held c.loop-k.desk) (g.D.Desk.held c.put_handed.new.desk) c.args.trace.now c.loop-k.trace c.put_handed.new.trace tt (Ok tt)
    c.args.form c.args.times.0 c.args.times.1 c.args.missing c.args.work.now.packets c.loop-k.k c.trace.result.now below (c.trace.ensures []) c.in_default.ensures.are_bytes c.loop-k.invariant.are_bytes c.loop-k.invariant.puts c.in_default.ensures.puts
