-- Bytes have one reading, and a walk has one end.
use Rattle.walk_command.proofs.WholeLemmas.{one_output}
use Rattle.walk_command.proofs.laws.one_egress.Goals as goal

pub returns : goal.returns
returns c = one_output
