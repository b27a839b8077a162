-- What was published, with the lists that are left behind it, is what it began with and all of them.
use Rattle.std.proofs.Common.{◌≡◌, length}
use Rattle.worker_run.specs.Shares.{longer_by}
use Rattle.worker_run.proofs.windows.publish_all.Given as goal

abbrev pub invariant-loop-changes : goal.invariant-loop-changes
invariant-loop-changes g l = record {
  window : l.publisher.window ≡ l.initial.publisher.window;
  published : longer_by l.publisher.published l.lists.items ≡ longer_by l.initial.publisher.published l.initial.lists.items;
}

abbrev pub decreases-loop-changes : goal.decreases-loop-changes
decreases-loop-changes g l = length l.lists.items
