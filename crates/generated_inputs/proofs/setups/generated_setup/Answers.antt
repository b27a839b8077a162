-- The text spells a setup, so it is not refused.
use Rattle.std.proofs.Common.{Err, ap}
use Rattle.generated_inputs.specs.Setups.{setup_text}
use Rattle.generated_inputs.proofs.SetupLemmas.{never_refused}
use Rattle.generated_inputs.proofs.setups.generated_setup.Goals as goal

pub returns-in-Ok : goal.returns-in-Ok
unfolding setup_text
returns-in-Ok c = c.in-Ok.ensures

pub unreachable-requires : goal.unreachable-requires
unfolding setup_text
unreachable-requires c = never_refused (Err c.in-Err-Line.field-0) c.in-Err-Line.field-0-0 c.in-Err-Line.field-0-1 (ap Err c.in-Err-Line.field-0-is) c.in-Err-Line.ensures
