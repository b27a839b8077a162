use Rattle.control_histories.proofs.ChangeLemmas.{changes_fit}
use Rattle.control_histories.proofs.laws.changes_of_a_log_are_taken.Goals as goal

pub returns : goal.returns
returns c = changes_fit
