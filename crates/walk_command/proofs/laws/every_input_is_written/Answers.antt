-- Every input is read, and the walks of its frames end.
use Rattle.pcap_io.proofs.TotalReadings.{every_reading}
use Rattle.walk_command.proofs.WholeLemmas.{written_for}
use Rattle.walk_command.proofs.laws.every_input_is_written.Goals as goal

pub returns : goal.returns
returns c = λ spi count input few bytes. written_for spi count input few (every_reading input bytes)
