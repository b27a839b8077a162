use Rattle.service_functions.proofs.LawLemmas.{one_service}
use Rattle.service_functions.proofs.laws.one_service.Goals as goal

pub returns : goal.returns
returns c = one_service
