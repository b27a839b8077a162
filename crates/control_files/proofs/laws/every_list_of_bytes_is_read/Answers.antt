-- Each segment is refused, held or whole.
use Rattle.control_files.proofs.TotalReadings.{every_reading}
use Rattle.control_files.proofs.laws.every_list_of_bytes_is_read.Goals as goal

pub returns : goal.returns
returns c = every_reading
