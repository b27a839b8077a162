use Rattle.forwarder.proofs.WalkLengths.{falls}
use Rattle.forwarder.proofs.laws.the_index_falls.Goals as goal

pub returns : goal.returns
returns c = falls
