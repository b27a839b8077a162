use Rattle.std.proofs.Common.{length}
use Rattle.worker_run.proofs.windows.+seat_parts.Given as goal

abbrev pub decreases-seat_parts : goal.decreases-seat_parts
decreases-seat_parts l = length l.parts.now
