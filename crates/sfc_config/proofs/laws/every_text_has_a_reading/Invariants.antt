-- Where it is known of the lines that are left what they say, it is known of all.
use Rattle.std.proofs.Common.{length}
use Rattle.std.specs.List.{AllByRecursion}
use Rattle.text_words.specs.Lines.{lines_of}
use Rattle.sfc_config.specs.Steps.{IsTold}
use Rattle.sfc_config.proofs.laws.every_text_has_a_reading.Given as goal

abbrev pub invariant-lines : goal.invariant-lines
invariant-lines l = AllByRecursion IsTold l.lines → AllByRecursion IsTold (lines_of l.text)

abbrev pub decreases-lines : goal.decreases-lines
decreases-lines l = length l.lines
