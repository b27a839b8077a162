-- The session with each peer has a run, and one; so a log goes on by one segment.
use Rattle.control_histories.proofs.LogExists.{some_log}
use Rattle.control_histories.proofs.laws.every_list_of_segments_has_a_log.Goals as goal

pub returns : goal.returns
returns c = some_log c.a_history_has_one_run.ensures c.every_history_has_a_run.ensures
