use Rattle.route_selection.proofs.OneSelection.{one_selection}
use Rattle.route_selection.proofs.laws.a_list_has_one_selection.Goals as goal

pub returns : goal.returns
returns c = one_selection
