use Rattle.static_walks.proofs.ForwarderWalks.{walked_so}
use Rattle.static_walks.proofs.laws.a_bare_forwarder_walks_so.Goals as goal

pub returns : goal.returns
returns c = walked_so c.a_frame_has_one_verdict.ensures
