-- It is known of each line what it says; then the lines decide, one after another.
use Rattle.std.proofs.Common.{subst, sym}
use Rattle.std.specs.List.{AllByRecursion}
use Rattle.sfc_config.specs.Steps.{IsTold}
use Rattle.sfc_config.proofs.ReadingLemmas.{reading_of}
use Rattle.sfc_config.proofs.laws.every_text_has_a_reading.Goals as goal

pub returns : goal.returns
returns c = reading_of c.args.text.now (c.lines.invariant (subst (λ ls. AllByRecursion IsTold ls) (sym c.in_default.ensures.0) tt))
