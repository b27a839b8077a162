-- What waits is held, and what is whole and read begins with its message.
use Rattle.std.proofs.Common.{arith}
use Rattle.bgp_messages.proofs.HeaderLemmas.{waits_held, begins_read}
use Rattle.bgp_messages.proofs.feeds.message_step.Goals as goal

pub returns-in-Wait : goal.returns-in-Wait
returns-in-Wait c = waits_held c.args.bytes.now c.in-Wait.ensures

pub returns-in-Ok : goal.returns-in-Ok
returns-in-Ok c = begins_read c.args.bytes.now _ c.in-Whole.length c.in-Ok.message (record { each = λ i. omega (arith, c.type_inv.bytes i) }) c.in-Whole.ensures (rw (c.from.ensures, c.from-2.ensures) at c.in-Ok.ensures)
