use Rattle.sfc_routes.proofs.MeaningLemmas.{one_change}
use Rattle.sfc_routes.proofs.laws.an_update_has_one_change.Goals as goal

pub returns : goal.returns
returns c = one_change c.one_reading.ensures.one_value c.one_reading.ensures.never_both
