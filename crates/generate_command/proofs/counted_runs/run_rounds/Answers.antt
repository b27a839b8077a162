-- A round takes a frame or a segment.
use Rattle.std.proofs.Common.{sym, ◌∙◌}
use Rattle.generate_command.proofs.TakingLemmas.{less_left}
use Rattle.generate_command.proofs.counted_runs.run_rounds.Goals as goal

pub rounds-smaller : goal.rounds-smaller
rounds-smaller c =
    less_left c.rounds.run.summary.frames c.next_round-round.result.segments c.next_round-round.result.frames c.rounds.frames_left.now c.split_at.result.1.now c.rounds.segments_left.now c.split_at-in-rounds.result.1.now
    (sym c.is_over.ensures ∙ c.rounds-test.true) c.next_round-round.ensures.segments c.next_round-round.ensures.frames c.next_round-round.ensures.few_segments c.next_round-round.ensures.few_frames c.split_at.ensures.back c.split_at-in-rounds.ensures.back
