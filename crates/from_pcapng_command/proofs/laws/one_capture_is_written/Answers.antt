-- Bytes have one reading.
use Rattle.from_pcapng_command.proofs.OneCaptureLemmas.{one_capture}
use Rattle.from_pcapng_command.proofs.laws.one_capture_is_written.Goals as goal

pub returns : goal.returns
returns c = one_capture
