-- Where what is left has a reading, all has one.
use Rattle.std.proofs.Common.{length}
use Rattle.record_text.specs.Records.{HasReading}
use Rattle.record_text.proofs.laws.every_text_has_a_reading.Given as goal

abbrev pub invariant-lines : goal.invariant-lines
invariant-lines l = HasReading l.roster l.rest → HasReading l.roster l.text

abbrev pub decreases-lines : goal.decreases-lines
decreases-lines l = length l.rest
