-- Each turn leads somewhere, and lowers the TTL.
use Rattle.run_laws.proofs.WalkExists.{some_walk}
use Rattle.run_laws.proofs.walks.every_frame_has_a_walk.Goals as goal

pub returns : goal.returns
returns c = some_walk
