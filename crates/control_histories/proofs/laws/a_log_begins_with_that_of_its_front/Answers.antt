use Rattle.control_histories.proofs.FrontLemmas.{front_heard}
use Rattle.control_histories.proofs.laws.a_log_begins_with_that_of_its_front.Goals as goal

pub returns : goal.returns
returns c = front_heard
