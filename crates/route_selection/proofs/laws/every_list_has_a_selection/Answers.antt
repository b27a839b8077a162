use Rattle.route_selection.proofs.FirstLemmas.{some_selection}
use Rattle.route_selection.proofs.laws.every_list_has_a_selection.Goals as goal

pub returns : goal.returns
returns c = some_selection
