-- Each segment is told by its bytes.
use Rattle.control_files.proofs.OneReading.{one_control}
use Rattle.control_files.proofs.laws.a_control_file_has_one_reading.Goals as goal

pub returns : goal.returns
returns c = one_control
