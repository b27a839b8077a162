-- A tick is a whole number of nanoseconds.
use Rattle.std.proofs.Common.{◌*◌, ◌<◌, arith}
use Rattle.pcapng_io.proofs.TimeLemmas.{long_value, long_below}
use Rattle.pcapng_io.proofs.times.long_ticks.Goals as goal

pub returns-clause-below : goal.returns-clause-below
returns-clause-below c = rw (c.pow.ensures, c.from.ensures) (long_below c.args.resolution c.args.part c.requires.few c.requires.part)

pub overflow_cast-result : goal.overflow_cast-result
overflow_cast-result c = let below : c.args.part * c.pow.result < 1000000000 = returns-clause-below c in grind arith

pub returns-clause-value : goal.returns-clause-value
returns-clause-value c = rw (c.pow.ensures, c.from.ensures) (long_value c.args.resolution c.args.part c.requires.few)
