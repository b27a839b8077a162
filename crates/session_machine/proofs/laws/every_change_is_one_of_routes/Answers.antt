use Rattle.session_machine.proofs.FitLemmas.{of_run}
use Rattle.session_machine.proofs.laws.every_change_is_one_of_routes.Goals as goal

pub returns : goal.returns
returns c = of_run
