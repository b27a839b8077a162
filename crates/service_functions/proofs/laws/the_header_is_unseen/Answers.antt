use Rattle.service_functions.proofs.LawLemmas.{unseen}
use Rattle.service_functions.proofs.laws.the_header_is_unseen.Goals as goal

pub returns : goal.returns
returns c = unseen
