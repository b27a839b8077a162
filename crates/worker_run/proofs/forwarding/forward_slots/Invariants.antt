-- Those before the place are forwarded, and those from it on are as they were.
use Rattle.worker_run.specs.Steps.{Forwards}
use Rattle.worker_run.proofs.ZipLemmas.{Forwarding}
use Rattle.worker_run.proofs.forwarding.forward_slots.Given as goal

abbrev pub invariant-loop-i : goal.invariant-loop-i
invariant-loop-i l = Forwarding (Forwards l.setup l.version l.table) l.initial.slots.items l.slots.items l.i
