-- The head is two blocks, and each packet is one.
use Rattle.pcapng_io.proofs.WrittenLemmas.{written_read}
use Rattle.pcapng_io.proofs.laws.a_written_file_is_read.Goals as goal

pub returns : goal.returns
returns c = written_read
