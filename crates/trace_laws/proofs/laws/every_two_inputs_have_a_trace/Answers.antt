-- What the rounds hand over, one behind the other, is a trace.
use Rattle.trace_laws.proofs.RunExists.{some_trace}
use Rattle.trace_laws.proofs.laws.every_two_inputs_have_a_trace.Goals as goal

pub returns : goal.returns
returns c = some_trace (record {
  walk = c.every_frame_has_a_walk.ensures;
  log = c.every_list_of_segments_has_a_log.ensures;
  taken = c.changes_of_a_log_are_taken.ensures;
  table = c.every_list_of_changes_has_a_table.ensures;
}) c.segments_have_one_log.ensures
