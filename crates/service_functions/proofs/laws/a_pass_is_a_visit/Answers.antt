use Rattle.service_functions.proofs.LawLemmas.{one_visit_more}
use Rattle.service_functions.proofs.laws.a_pass_is_a_visit.Goals as goal

pub returns : goal.returns
returns c = one_visit_more
