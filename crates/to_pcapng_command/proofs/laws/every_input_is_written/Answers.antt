-- Every input is read, and its frames have times up to one that is too late.
use Rattle.pcap_io.proofs.TotalReadings.{every_reading}
use Rattle.to_pcapng_command.proofs.OneFileLemmas.{written_for}
use Rattle.to_pcapng_command.proofs.laws.every_input_is_written.Goals as goal

pub returns : goal.returns
returns c = λ input bytes. written_for input (every_reading input bytes)
