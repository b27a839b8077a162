use Rattle.control_histories.proofs.HeardLemmas.{heard}
use Rattle.control_histories.proofs.laws.what_sessions_took_was_heard.Goals as goal

pub returns : goal.returns
returns c = heard
