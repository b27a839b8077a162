-- The forwarder at the place is written, and those behind it are to come.
use Rattle.std.proofs.Common.{arith}
use Rattle.sfc_config.proofs.PrintLemmas.{next_forwarder}
use Rattle.sfc_config.proofs.printing.print_forwarders.Goals as goal

pub loop-i-preserved : goal.loop-i-preserved
loop-i-preserved c =
    next_forwarder c.args.roster.now.forwarders c.loop-i.i c.forwarder_name.result.now c.address_of.result.now _ _ _
    (omega (arith, c.loop-i-test.true, c.forwarders-i-end.ensures.value)) c.forwarder_name.ensures c.address_of.ensures
    c.in_ok-print_forwarder.ensures c.loop-i.invariant
