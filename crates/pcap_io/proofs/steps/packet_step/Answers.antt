-- What is not there refuses nothing, and a whole packet is one.
use Rattle.std.proofs.Common.{arith}
use Rattle.pcap_io.proofs.PacketLemmas.{held_body, begins_body}
use Rattle.pcap_io.proofs.steps.packet_step.Goals as goal

pub returns-then-bytes-head : goal.returns-then-bytes-head
returns-then-bytes-head c = (
  omega arith,
  held_body c.args.form c.args.bytes.now c.head_at-head.result c.head_at-head.ensures.fits c.head_at-head.ensures.head c.head_at-head.ensures.captured c.head_at-head.ensures.original
      (record { captured = omega arith; whole = omega arith; original = omega arith }) (omega arith),
)

pub returns : goal.returns
returns c = (
  omega arith,
  begins_body c.args.form c.args.bytes.now c.head_at-head.result c.head_at-head.ensures.fits c.head_at-head.ensures.head
      (record { captured = omega arith; whole = omega arith; original = omega arith }) (omega arith),
)
