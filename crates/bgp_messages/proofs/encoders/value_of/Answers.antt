-- One capability is no longer than all.
use Rattle.std.proofs.Common.{arith}
use Rattle.bgp_messages.specs.Opens.{capability_bytes}
use Rattle.bgp_messages.proofs.EncoderLemmas.{piece_le}
use Rattle.bgp_messages.proofs.encoders.value_of.Goals as goal

pub put_capability-requires : goal.put_capability-requires
put_capability-requires c = omega (arith, c.requires, piece_le capability_bytes c.args.caps.now c.loop-capability.capability-index c.capability-item.result c.loop-capability-test.true c.capability-item.is)
