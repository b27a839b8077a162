-- The log of a round is that of the segments up to its last one.
use Rattle.frame_traces.proofs.TraceRunLemmas.{rounds_trace, trace_rounds}
use Rattle.frame_traces.proofs.laws.a_trace_is_what_its_rounds_hand_over.Goals as goal

pub returns-clause-run : goal.returns-clause-run
returns-clause-run c = rounds_trace c.segments_have_one_log.ensures

pub returns-clause-rounds : goal.returns-clause-rounds
returns-clause-rounds c = trace_rounds
