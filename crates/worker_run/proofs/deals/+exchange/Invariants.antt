use Rattle.std.proofs.Common.{length}
use Rattle.worker_run.proofs.deals.+exchange.Given as goal

abbrev pub decreases-exchange : goal.decreases-exchange
decreases-exchange l = length l.parts.now
