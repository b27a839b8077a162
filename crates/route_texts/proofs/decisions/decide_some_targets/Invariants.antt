-- Where what is left is decided, all is.
use Rattle.std.proofs.Common.{length}
use Rattle.text_words.specs.Pieces.{pieces_of}
use Rattle.route_texts.specs.RouteLines.{SpellsTarget}
use Rattle.route_texts.proofs.DecisionLemmas.{Leads}
use Rattle.route_texts.proofs.decisions.decide_some_targets.Given as goal

abbrev pub invariant-pieces : goal.invariant-pieces
invariant-pieces l = Leads SpellsTarget l.pieces (pieces_of 44 l.word)

abbrev pub decreases-pieces : goal.decreases-pieces
decreases-pieces l = length l.pieces
