-- Each of the two files has one reading.
use Rattle.round_inputs.proofs.LawLemmas.{one_inputs}
use Rattle.round_inputs.proofs.laws.two_files_have_one_reading.Goals as goal

pub returns : goal.returns
returns c = one_inputs
