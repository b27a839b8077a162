use Rattle.std.proofs.Common.{length}
use Rattle.worker_run.proofs.shares.+forward_share.Given as goal

abbrev pub decreases-forward_share : goal.decreases-forward_share
decreases-forward_share g l = length l.slots.now
