-- The segments of the cut, and the frames up to the next one.
use Rattle.generate_command.proofs.TakingLemmas.{frames_taken, segments_taken}
use Rattle.generate_command.proofs.memory_rounds.next_round.Goals as goal

pub returns-clause-segments : goal.returns-clause-segments
returns-clause-segments c = segments_taken c.args.place c.count_at_cut-grouped.result c.is_empty.result c.args.frames.now c.args.segments.now c.is_empty.ensures c.count_at_cut-grouped.ensures.are

pub returns-clause-frames : goal.returns-clause-frames
returns-clause-frames c =
    frames_taken c.args.place c.count_at_cut-grouped.result c.count_wanted-wanted.result c.min.result c.args.frames.now c.args.segments.now c.count_at_cut-grouped.ensures.within
    (segments_taken c.args.place c.count_at_cut-grouped.result c.is_empty.result c.args.frames.now c.args.segments.now c.is_empty.ensures c.count_at_cut-grouped.ensures.are)
    c.count_wanted-wanted.ensures c.min.ensures
