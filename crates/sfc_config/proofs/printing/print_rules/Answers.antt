-- The rule at the place is written, and those behind it are to come.
use Rattle.std.proofs.Common.{arith}
use Rattle.setup_statements.specs.declared.statements.Statement.TheVariants.{Rule}
use Rattle.sfc_config.proofs.PrintLemmas.{next_group}
use Rattle.sfc_config.proofs.printing.print_rules.Goals as goal

pub loop-i-preserved : goal.loop-i-preserved
loop-i-preserved c =
    next_group Rule c.args.rules.now c.loop-i.i c.rule.result.now _ _ _ (omega (arith, c.loop-i-test.true, c.len-i-end.ensures.value))
    c.rule.ensures c.in_ok-print_rule.ensures c.loop-i.invariant
