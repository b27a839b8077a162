-- The session with each peer has one run.
use Rattle.control_histories.proofs.OneLog.{one_log}
use Rattle.control_histories.proofs.laws.segments_have_one_log.Goals as goal

pub returns : goal.returns
returns c = one_log c.a_history_has_one_run.ensures
