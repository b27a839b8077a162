-- The frame at the place is still within its limits, and is then forwarded.
use Rattle.std.proofs.Common.{◌<◌, arith, length}
use Rattle.pcap_io.specs.Captures.{IsWithinLimits}
use Rattle.worker_run.specs.Batches.{Carried}
use Rattle.worker_run.specs.Steps.{Forwards}
use Rattle.worker_run.proofs.ZipLemmas.{of_front, put_one, still_there}
use Rattle.worker_run.proofs.forwarding.forward_slots.Goals as goal

pub forward_slot-requires : goal.forward_slot-requires
forward_slot-requires c =
    let old = c.args.slots.now.items in
    let was = c.index_mut.result.now in
    let below : c.loop-i.i < length old = omega (arith, c.loop-i-test.true, c.requires.many) in
    of_front (λ (x : Carried). IsWithinLimits x.frame) c.args.used old c.loop-i.i was c.requires.limits c.loop-i-test.true c.requires.many
    (still_there (Forwards c.args.setup.now c.args.version c.args.table.now) old c.loop-i.slots.items c.loop-i.i was c.loop-i.invariant below c.index_mut.ensures.value)

pub loop-i-preserved : goal.loop-i-preserved
loop-i-preserved c =
    let old = c.args.slots.now.items in
    let below : c.loop-i.i < length old = omega (arith, c.loop-i-test.true, c.requires.many) in
    put_one (Forwards c.args.setup.now c.args.version c.args.table.now) old c.loop-i.slots.items c.loop-i.i c.index_mut.result.now c.forward_slot.new.slot c.loop-i.invariant below c.index_mut.ensures.value c.in_ok-forward_slot.ensures
