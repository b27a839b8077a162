-- One list of rounds, one log, and one walk of each frame.
use Rattle.frame_traces.proofs.TraceRunLemmas.{one_trace}
use Rattle.frame_traces.proofs.laws.there_is_one_trace.Goals as goal

pub returns : goal.returns
returns c = one_trace c.a_frame_has_one_single_walk.ensures c.segments_have_one_log.ensures
