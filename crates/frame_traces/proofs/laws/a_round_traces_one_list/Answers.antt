-- One log, and one list of each frame over the table of its changes.
use Rattle.frame_traces.proofs.TraceLemmas.{one_tracing}
use Rattle.frame_traces.proofs.laws.a_round_traces_one_list.Goals as goal

pub returns : goal.returns
returns c = one_tracing c.a_frame_has_one_single_walk.ensures c.segments_have_one_log.ensures
