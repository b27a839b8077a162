use Rattle.route_selection.proofs.OneSelection.{same_selection}
use Rattle.route_selection.proofs.laws.same_routes_have_one_selection.Goals as goal

pub returns : goal.returns
returns c = same_selection
