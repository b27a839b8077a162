-- The target at the place is written, and those behind it are to come.
use Rattle.std.proofs.Common.{arith}
use Rattle.setup_statements.specs.declared.statements.Statement.TheVariants.{Target}
use Rattle.sfc_config.proofs.PrintLemmas.{next_group}
use Rattle.sfc_config.proofs.printing.print_targets.Goals as goal

pub loop-i-preserved : goal.loop-i-preserved
loop-i-preserved c =
    next_group Target c.args.roster.now.targets c.loop-i.i c.target.result _ _ _ (omega (arith, c.loop-i-test.true, c.targets-i-end.ensures.value))
    c.target.ensures c.in_ok-print_target.ensures c.loop-i.invariant
