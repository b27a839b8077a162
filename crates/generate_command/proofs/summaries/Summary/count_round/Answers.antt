-- One frame more is counted, and none twice.
use Rattle.std.proofs.Common.{◌≡◌, ℕ, ◌<◌, cond, not, get_or, length, ap, ◌∙◌, arith}
use Rattle.record_text.specs.declared.records.Record.{Record}
use Rattle.worker_run.specs.Outputs.{goes_out}
use Rattle.generate_command.specs.Summaries.{drops, goes}
use Rattle.generate_command.proofs.CountLemmas.{counted_few, counted_more, no_frame}
use Rattle.generate_command.proofs.summaries.Summary.count_round.Goals as goal

pub count-requires-clause-egress : goal.count-requires-clause-egress
count-requires-clause-egress c = omega (arith, c.frames.invariant.1, counted_few goes c.args.batch.now c.frames.i, c.requires.egress, c.frames-test.true, c.len-i-end.ensures)

pub count-requires-clause-dropped : goal.count-requires-clause-dropped
count-requires-clause-dropped c = omega (arith, c.frames.invariant.2, counted_few drops c.args.batch.now c.frames.i, c.requires.dropped, c.frames-test.true, c.len-i-end.ensures)

pub frames-preserved : goal.frames-preserved
frames-preserved c =
    let before = c.frames.invariant in
    let small : c.frames.i < length c.args.batch.now = omega (arith, c.frames-test.true, c.len-i-end.ensures) in
    let record_is : c.end_of.result.now ≡ (get_or c.args.batch.now c.frames.i no_frame).outcome = c.end_of.ensures no_frame in
    let out = counted_more goes c.args.batch.now c.frames.i no_frame small in
    let dropped = counted_more drops c.args.batch.now c.frames.i no_frame small in
    let is_out : ◌≡◌ {A = ℕ} (cond (goes_out c.end_of.result.now.end) 1 0) (cond (goes (get_or c.args.batch.now c.frames.i no_frame).outcome) 1 0) = ap (λ (r : Record). cond (goes r) 1 0) record_is in
    let is_dropped : ◌≡◌ {A = ℕ} (cond (not (goes_out c.end_of.result.now.end)) 1 0) (cond (drops (get_or c.args.batch.now c.frames.i no_frame).outcome) 1 0) = ap (λ (r : Record). cond (drops r) 1 0) record_is in (
      omega (arith, c.count.ensures.frames, before.0),
      omega (arith, c.count.ensures.egress, before.1, out, is_out),
      omega (arith, c.count.ensures.dropped, before.2, dropped, is_dropped),
      c.count.ensures.version ∙ before.3,
    )
