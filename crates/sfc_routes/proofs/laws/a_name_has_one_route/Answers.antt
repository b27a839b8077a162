use Rattle.sfc_routes.proofs.HistoryLemmas.{one_of_a_name}
use Rattle.sfc_routes.proofs.laws.a_name_has_one_route.Goals as goal

pub returns : goal.returns
returns c = one_of_a_name
