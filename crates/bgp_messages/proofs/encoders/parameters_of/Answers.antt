-- One parameter is no longer than all.
use Rattle.std.proofs.Common.{arith}
use Rattle.bgp_messages.specs.Opens.{parameter_bytes}
use Rattle.bgp_messages.proofs.EncoderLemmas.{piece_le}
use Rattle.bgp_messages.proofs.encoders.parameters_of.Goals as goal

pub value_of-requires : goal.value_of-requires
value_of-requires c =
    rw c.as_slice.ensures (omega (arith, c.requires, piece_le parameter_bytes c.args.params.now c.loop-param.param-index c.param-item.result c.loop-param-test.true c.param-item.is))

pub overflow_cast-value : goal.overflow_cast-value
overflow_cast-value c =
    rw (c.as_slice-value.ensures, c.in_ok-value.ensures, c.as_slice.ensures) (omega (arith, c.requires, piece_le parameter_bytes c.args.params.now c.loop-param.param-index c.param-item.result c.loop-param-test.true c.param-item.is))
