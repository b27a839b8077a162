-- Every input is read, and begins a file or not.
use Rattle.from_pcapng_command.proofs.OneCaptureLemmas.{every_written}
use Rattle.from_pcapng_command.proofs.laws.every_input_is_written.Goals as goal

pub returns : goal.returns
returns c = every_written
