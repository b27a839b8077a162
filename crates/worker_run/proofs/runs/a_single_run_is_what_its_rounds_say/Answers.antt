-- Each record also names the newest version of its round alone.
use Rattle.worker_run.proofs.SingleRuns.{single_lines, singles_run}
use Rattle.worker_run.proofs.runs.a_single_run_is_what_its_rounds_say.Goals as goal

pub returns-clause-run : goal.returns-clause-run
returns-clause-run c = singles_run c.segments_have_one_log.ensures

pub returns-clause-rounds : goal.returns-clause-rounds
returns-clause-rounds c = single_lines
