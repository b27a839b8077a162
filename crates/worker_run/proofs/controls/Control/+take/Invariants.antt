use Rattle.std.proofs.Common.{length}
use Rattle.worker_run.proofs.controls.Control.+take.Given as goal

abbrev pub decreases-take : goal.decreases-take
decreases-take l = length l.segments.now
