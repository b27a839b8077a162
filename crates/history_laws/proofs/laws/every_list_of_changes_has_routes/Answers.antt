-- Each change can be taken, one after the other.
use Rattle.history_laws.proofs.EditExists.{some_routes}
use Rattle.history_laws.proofs.laws.every_list_of_changes_has_routes.Goals as goal

pub returns : goal.returns
returns c = some_routes
