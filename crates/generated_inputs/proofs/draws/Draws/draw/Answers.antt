-- Both steps are taken modulo 2^64.
use Rattle.std.proofs.Common.{arith}
use Rattle.generated_inputs.specs.Draws.{next_state}
use Rattle.generated_inputs.proofs.draws.Draws.draw.Goals as goal

pub returns-clause-next : goal.returns-clause-next
unfolding next_state
returns-clause-next c = omega arith
