-- Both are counts of the one run over the same inputs.
use Rattle.generate_command.proofs.LawLemmas.{one_summary}
use Rattle.generate_command.proofs.laws.one_run_is_counted.Goals as goal

pub returns : goal.returns
returns c = one_summary c.segments_have_one_log.ensures c.there_is_one_single_run.ensures
