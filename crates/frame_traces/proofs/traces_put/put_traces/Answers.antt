-- One frame more, or a front of what every run hands over.
use Rattle.std.proofs.Common.{[], ◌++◌, ◌<◌, Ok, Err, length, arith}
use Rattle.control_histories.specs.Logs.{changes_of}
use Rattle.round_outputs.proofs.BatchLemmas.{no_frame}
use Rattle.round_outputs.proofs.PutLemmas.{puts_nothing, puts_then}
use Rattle.frame_traces.proofs.TraceLemmas.{traced_more, traced_stopped}
use Rattle.frame_traces.proofs.traces_put.put_traces.Goals as goal

pub loop-i-init : goal.loop-i-init
loop-i-init g c =
    let nothing = puts_nothing g.D.Desk.tells (g.D.Desk.at c.args.desk.now) (g.D.Desk.held c.args.desk.now) c.args.trace.now tt c.requires.bound in
    record { kept = c.requires.kept; puts = ([], nothing); traces = λ history log stands one. ([], tt, nothing) }

pub returns-in-Err-clause-puts : goal.returns-in-Err-clause-puts
returns-in-Err-clause-puts g c = (
  c.loop-i.invariant.puts.0 ++ c.in-Err.ensures.puts.0,
  puts_then g.D.Desk.tells (g.D.Desk.at c.args.desk.now) (g.D.Desk.at c.loop-i.desk) (g.D.Desk.at c.trace_frame.new.desk) (g.D.Desk.held c.args.desk.now) (g.D.Desk.held c.loop-i.desk) (g.D.Desk.held c.trace_frame.new.desk) c.args.trace.now c.loop-i.trace c.trace_frame.new.trace tt (Err c.in-Err.fault) c.loop-i.invariant.puts.0 c.in-Err.ensures.puts.0 c.loop-i.invariant.puts.1 c.in-Err.ensures.puts.1,
)

pub returns-in-Err-clause-traces : goal.returns-in-Err-clause-traces
returns-in-Err-clause-traces g c = λ history log stands one.
    let below : c.loop-i.i < length c.args.batch.now = omega (arith, c.loop-i-test.true, c.len-i-end.ensures) in
    traced_stopped g.D.Desk.tells (g.D.Desk.at c.args.desk.now) (g.D.Desk.at c.loop-i.desk) (g.D.Desk.at c.trace_frame.new.desk) (g.D.Desk.held c.args.desk.now) (g.D.Desk.held c.loop-i.desk) (g.D.Desk.held c.trace_frame.new.desk) c.args.trace.now c.loop-i.trace c.trace_frame.new.trace
    c.args.form c.args.runner.now.setup (changes_of log) c.args.batch.now c.loop-i.i no_frame tt c.in-Err.fault one below (c.loop-i.invariant.traces history log stands one) (c.in-Err.ensures.traces history log stands one no_frame)

pub loop-i-preserved : goal.loop-i-preserved
loop-i-preserved g c =
    let below : c.loop-i.i < length c.args.batch.now = omega (arith, c.loop-i-test.true, c.len-i-end.ensures) in
    record {
      kept = c.in_default.ensures.kept;
      puts = (
        c.loop-i.invariant.puts.0 ++ c.in_default.ensures.puts.0,
        puts_then g.D.Desk.tells (g.D.Desk.at c.args.desk.now) (g.D.Desk.at c.loop-i.desk) (g.D.Desk.at c.trace_frame.new.desk) (g.D.Desk.held c.args.desk.now) (g.D.Desk.held c.loop-i.desk) (g.D.Desk.held c.trace_frame.new.desk) c.args.trace.now c.loop-i.trace c.trace_frame.new.trace tt (Ok tt) c.loop-i.invariant.puts.0 c.in_default.ensures.puts.0 c.loop-i.invariant.puts.1 c.in_default.ensures.puts.1,
      );
      traces = λ history log stands one.
          traced_more g.D.Desk.tells (g.D.Desk.at c.args.desk.now) (g.D.Desk.at c.loop-i.desk) (g.D.Desk.at c.trace_frame.new.desk) (g.D.Desk.held c.args.desk.now) (g.D.Desk.held c.loop-i.desk) (g.D.Desk.held c.trace_frame.new.desk) c.args.trace.now c.loop-i.trace c.trace_frame.new.trace
          c.args.form c.args.runner.now.setup (changes_of log) c.args.batch.now c.loop-i.i no_frame tt tt below (c.loop-i.invariant.traces history log stands one) (c.in_default.ensures.traces history log stands one no_frame);
    }
