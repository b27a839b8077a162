-- Blocks are told apart by what they begin with.
use Rattle.pcapng_io.proofs.OneReading.{first_frames}
use Rattle.pcapng_io.proofs.laws.what_is_given_comes_first.Goals as goal

pub returns : goal.returns
returns c = first_frames
