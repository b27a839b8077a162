use Rattle.std.proofs.Common.{length}
use Rattle.worker_run.proofs.windows.+unseat_parts.Given as goal

abbrev pub decreases-unseat_parts : goal.decreases-unseat_parts
decreases-unseat_parts l = length l.parts.now
