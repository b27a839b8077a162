-- A log, a table of its changes, a walk of each frame over it, and the packets of that.
use Rattle.trace_laws.proofs.RunExists.{traces_round}
use Rattle.trace_laws.proofs.laws.every_round_hands_something_over.Goals as goal

pub returns : goal.returns
returns c = traces_round (record {
  walk = c.every_frame_has_a_walk.ensures;
  log = c.every_list_of_segments_has_a_log.ensures;
  taken = c.changes_of_a_log_are_taken.ensures;
  table = c.every_list_of_changes_has_a_table.ensures;
})
