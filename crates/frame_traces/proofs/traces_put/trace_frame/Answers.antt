-- The packets that were kept of the walk are those that the frame hands over.
use Rattle.std.proofs.Common.{◌≡◌, ℕ, ◌-◌, length, slice_index_or, ap, subst, arith}
use Rattle.control_histories.specs.Logs.{changes_of}
use Rattle.round_outputs.proofs.BatchLemmas.{no_frame}
use Rattle.frame_traces.specs.Keeping.{PutsFirst}
use Rattle.frame_traces.proofs.TraceLemmas.{puts_frame}
use Rattle.frame_traces.proofs.traces_put.trace_frame.Goals as goal

pub overflow_cast-missing : goal.overflow_cast-missing
overflow_cast-missing g c =
    let within = c.requires.limits c.args.i no_frame c.requires.there in
    omega (arith, ap length (c.bytes_of.ensures no_frame), within.captured)

pub overflow_sub-missing : goal.overflow_sub-missing
overflow_sub-missing g c =
    let within = c.requires.limits c.args.i no_frame c.requires.there in
    omega (arith, ap length (c.bytes_of.ensures no_frame), c.original_of.ensures no_frame, within.whole)

pub returns-clause-traces : goal.returns-clause-traces
returns-clause-traces g c = λ history log stands one d.
    let frame = (slice_index_or c.args.batch.now c.args.i d).frame in
    let within = c.requires.limits c.args.i d c.requires.there in
    let kept = c.forward_frame.new.work.packets in
    let missing : c.original_of.result - length c.bytes_of.result.now ≡ frame.original - length frame.bytes = λ k. c.original_of.ensures d k - length (c.bytes_of.ensures d k) in
    puts_frame g.D.Desk.tells (g.D.Desk.at c.args.desk.now) (g.D.Desk.at c.put_walk.new.desk) (g.D.Desk.held c.args.desk.now) (g.D.Desk.held c.put_walk.new.desk) c.args.trace.now c.put_walk.new.trace c.put_walk.result
    c.args.form c.args.runner.now.setup (changes_of log) frame kept one within.whole (c.forward_frame.ensures.walk history log stands d)
    (subst (λ (s : ℕ). PutsFirst g.D.Desk.tells (g.D.Desk.at c.args.desk.now) (g.D.Desk.at c.put_walk.new.desk) (g.D.Desk.held c.args.desk.now) (g.D.Desk.held c.put_walk.new.desk) c.args.trace.now c.put_walk.new.trace c.put_walk.result c.args.form s frame.fraction (frame.original - length frame.bytes) kept) (c.times_of.ensures d).0
    (subst (λ (f : ℕ). PutsFirst g.D.Desk.tells (g.D.Desk.at c.args.desk.now) (g.D.Desk.at c.put_walk.new.desk) (g.D.Desk.held c.args.desk.now) (g.D.Desk.held c.put_walk.new.desk) c.args.trace.now c.put_walk.new.trace c.put_walk.result c.args.form c.times_of.result.0 f (frame.original - length frame.bytes) kept) (c.times_of.ensures d).1
    (subst (λ (m : ℕ). PutsFirst g.D.Desk.tells (g.D.Desk.at c.args.desk.now) (g.D.Desk.at c.put_walk.new.desk) (g.D.Desk.held c.args.desk.now) (g.D.Desk.held c.put_walk.new.desk) c.args.trace.now c.put_walk.new.trace c.put_walk.result c.args.form c.times_of.result.0 c.times_of.result.1 m kept) missing
    c.put_walk.ensures)))
