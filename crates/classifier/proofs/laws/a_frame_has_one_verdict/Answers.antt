-- the rule that decides is one
use Rattle.classifier.proofs.VerdictLemmas.{one_start}
use Rattle.classifier.proofs.laws.a_frame_has_one_verdict.Goals as goal

pub returns : goal.returns
returns c = one_start
