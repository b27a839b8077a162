use Rattle.forwarder.proofs.StraightWalks.{goes_along}
use Rattle.forwarder.proofs.laws.a_frame_goes_straight.Goals as goal

pub returns : goal.returns
returns c = goes_along c.a_frame_has_one_verdict.ensures
