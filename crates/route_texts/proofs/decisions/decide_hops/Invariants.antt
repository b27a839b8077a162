-- Where what is left is decided, all is.
use Rattle.std.proofs.Common.{length}
use Rattle.route_texts.specs.RouteLines.{SpellsHop}
use Rattle.route_texts.proofs.DecisionLemmas.{Leads}
use Rattle.route_texts.proofs.decisions.decide_hops.Given as goal

abbrev pub invariant-words : goal.invariant-words
invariant-words l = Leads SpellsHop l.words l.fn.words

abbrev pub decreases-words : goal.decreases-words
decreases-words l = length l.words
