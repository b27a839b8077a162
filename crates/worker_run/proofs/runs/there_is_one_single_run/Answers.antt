-- Its rounds are the same, and each says one list.
use Rattle.worker_run.proofs.SingleRuns.{one_single}
use Rattle.worker_run.proofs.runs.there_is_one_single_run.Goals as goal

pub returns : goal.returns
returns c = one_single c.a_round_says_one_list.ensures
