-- Each segment is told by its bytes, and then the end by what is left.
use Rattle.control_files.proofs.OneReading.{one_reading}
use Rattle.control_files.proofs.laws.one_reading.Goals as goal

pub returns : goal.returns
returns c = one_reading
