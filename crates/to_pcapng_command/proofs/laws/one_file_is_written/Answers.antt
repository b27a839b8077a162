-- Bytes have one reading, and in it one frame is the first that is too late.
use Rattle.to_pcapng_command.proofs.OneFileLemmas.{one_file}
use Rattle.to_pcapng_command.proofs.laws.one_file_is_written.Goals as goal

pub returns : goal.returns
returns c = one_file
