-- Blocks are told apart by what they begin with.
use Rattle.pcapng_io.proofs.OneReading.{one_ng}
use Rattle.pcapng_io.proofs.laws.a_file_has_one_reading.Goals as goal

pub returns : goal.returns
returns c = one_ng
