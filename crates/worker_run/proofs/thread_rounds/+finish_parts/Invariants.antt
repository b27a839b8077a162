use Rattle.std.proofs.Common.{length}
use Rattle.worker_run.proofs.thread_rounds.+finish_parts.Given as goal

abbrev pub decreases-finish_parts : goal.decreases-finish_parts
decreases-finish_parts g l = length l.parts.now
