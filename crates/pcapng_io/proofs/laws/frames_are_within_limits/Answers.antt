-- Each frame comes from a block of which nothing is refused.
use Rattle.pcapng_io.proofs.WithinLemmas.{part_within}
use Rattle.pcapng_io.proofs.laws.frames_are_within_limits.Goals as goal

pub returns : goal.returns
returns c = part_within
