-- Each segment of a control file stands no lower than the one before.
use Rattle.round_inputs.proofs.LawLemmas.{sound_inputs}
use Rattle.round_inputs.proofs.laws.a_run_may_begin.Goals as goal

pub returns : goal.returns
returns c = sound_inputs
