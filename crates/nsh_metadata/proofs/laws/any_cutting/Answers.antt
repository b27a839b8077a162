use Rattle.nsh_metadata.proofs.FeedLemmas.{stands_once}
use Rattle.nsh_metadata.proofs.laws.any_cutting.Goals as goal

pub returns : goal.returns
returns c = stands_once
