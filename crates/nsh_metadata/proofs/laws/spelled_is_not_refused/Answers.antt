use Rattle.nsh_metadata.proofs.HeaderLemmas.{begins_unrefused}
use Rattle.nsh_metadata.proofs.laws.spelled_is_not_refused.Goals as goal

pub returns : goal.returns
returns c = begins_unrefused
