-- what is written and what is to come are what is to be written
use Rattle.std.proofs.Common.{◌≡◌, ◌++◌, drop}
use Rattle.std.specs.Prelude.{map}
use Rattle.setup_statements.specs.declared.statements.Statement.TheVariants as statement
use Rattle.sfc_config.specs.Printed.{printed}
use Rattle.sfc_config.proofs.printing.print_peers.Given as goal

abbrev pub invariant-loop-peer : goal.invariant-loop-peer
invariant-loop-peer l = l.out ++ printed (map statement.Peer (drop l.peer-index l.peers)) ≡ l.initial.out ++ printed (map statement.Peer l.peers)
