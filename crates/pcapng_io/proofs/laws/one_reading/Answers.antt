-- Blocks are told apart by what they begin with.
use Rattle.pcapng_io.proofs.OneReading.{one_reading}
use Rattle.pcapng_io.proofs.laws.one_reading.Goals as goal

pub returns : goal.returns
returns c = one_reading
