use Rattle.sfc_routes.proofs.HistoryLemmas.{one_list}
use Rattle.sfc_routes.proofs.laws.a_history_has_one_list.Goals as goal

pub returns : goal.returns
returns c = one_list
