use Rattle.forwarder.proofs.OneWalk.{one_walk, one_walk_from}
use Rattle.forwarder.proofs.laws.a_frame_has_one_walk.Goals as goal

pub returns : goal.returns
returns c = record { walk = one_walk c.a_frame_has_one_verdict.ensures; from = one_walk_from }
