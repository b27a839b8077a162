-- The log of all segments begins with the logs of the rounds.
use Rattle.worker_run.proofs.SingleRuns.{run_lines, runs}
use Rattle.worker_run.proofs.runs.a_run_is_what_its_rounds_say.Goals as goal

pub returns-clause-run : goal.returns-clause-run
returns-clause-run c = runs c.segments_have_one_log.ensures

pub returns-clause-rounds : goal.returns-clause-rounds
returns-clause-rounds c = run_lines
