use Rattle.sfc_routes.proofs.MeaningLemmas.{some_change}
use Rattle.sfc_routes.proofs.laws.every_update_has_a_change.Goals as goal

pub returns : goal.returns
returns c = some_change c.every_value_is_read_or_refused.ensures
