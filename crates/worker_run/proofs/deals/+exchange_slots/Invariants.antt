use Rattle.std.proofs.Common.{length}
use Rattle.worker_run.proofs.deals.+exchange_slots.Given as goal

abbrev pub decreases-exchange_slots : goal.decreases-exchange_slots
decreases-exchange_slots l = length l.slots.now
