-- Worker 0 is below any number of workers.
use Rattle.worker_run.proofs.SingleRuns.{single_is_run, single_round}
use Rattle.worker_run.proofs.runs.a_single_run_is_a_run.Goals as goal

pub returns-clause-round : goal.returns-clause-round
returns-clause-round c = single_round

pub returns-clause-run : goal.returns-clause-run
returns-clause-run c = single_is_run
