-- Where what is left can be read behind any routes, all can.
use Rattle.std.proofs.Common.{length}
use Rattle.route_texts.specs.Decisions.{Readable}
use Rattle.route_texts.proofs.laws.every_text_has_a_reading.Given as goal

abbrev pub invariant-lines : goal.invariant-lines
invariant-lines l = Readable l.rest → Readable l.text

abbrev pub decreases-lines : goal.decreases-lines
decreases-lines l = length l.rest
