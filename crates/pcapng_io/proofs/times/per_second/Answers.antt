-- A power of ten is not 0.
use Rattle.std.proofs.Common.{arith}
use Rattle.pcapng_io.proofs.TimeLemmas.{ten_some}
use Rattle.pcapng_io.proofs.times.per_second.Goals as goal

pub returns-then-resolution-lt128-clause-some : goal.returns-then-resolution-lt128-clause-some
returns-then-resolution-lt128-clause-some c = omega (arith, c.pow.ensures, ten_some c.from.result)
