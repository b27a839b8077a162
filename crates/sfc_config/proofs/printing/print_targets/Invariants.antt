-- what is written and what is to come are what is to be written
use Rattle.std.proofs.Common.{◌≡◌, ◌++◌, drop}
use Rattle.std.specs.Prelude.{map}
use Rattle.setup_statements.specs.declared.statements.Statement.TheVariants as statement
use Rattle.sfc_config.specs.Printed.{printed}
use Rattle.sfc_config.proofs.printing.print_targets.Given as goal

abbrev pub invariant-loop-i : goal.invariant-loop-i
invariant-loop-i l = l.out ++ printed (map statement.Target (drop l.i l.roster.targets)) ≡ l.initial.out ++ printed (map statement.Target l.roster.targets)
