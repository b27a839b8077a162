-- what is written and what is to come are what is to be written
use Rattle.std.proofs.Common.{◌≡◌, ◌++◌, drop}
use Rattle.setup_statements.specs.declared.statements.Statement.TheVariants as statement
use Rattle.sfc_config.specs.Printed.{printed, instances_of}
use Rattle.sfc_config.proofs.printing.print_instances.Given as goal

abbrev pub invariant-loop-i : goal.invariant-loop-i
invariant-loop-i l = l.out ++ printed (instances_of (drop l.i l.roster.instances) (drop l.i l.bounds)) ≡ l.initial.out ++ printed (instances_of l.roster.instances l.bounds)
