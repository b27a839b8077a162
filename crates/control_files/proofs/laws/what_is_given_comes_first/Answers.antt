-- What is read so far is the front of what is read in all.
use Rattle.control_files.proofs.OneReading.{first_segments}
use Rattle.control_files.proofs.laws.what_is_given_comes_first.Goals as goal

pub returns : goal.returns
returns c = first_segments
