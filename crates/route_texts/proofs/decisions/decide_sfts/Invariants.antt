-- Where what is left is decided, all is.
use Rattle.std.proofs.Common.{length}
use Rattle.text_words.specs.Pieces.{pieces_of}
use Rattle.route_texts.specs.RouteLines.{SpellsSft}
use Rattle.route_texts.proofs.DecisionLemmas.{Leads}
use Rattle.route_texts.proofs.decisions.decide_sfts.Given as goal

abbrev pub invariant-pieces : goal.invariant-pieces
invariant-pieces l = Leads SpellsSft l.pieces (pieces_of 59 l.word)

abbrev pub decreases-pieces : goal.decreases-pieces
decreases-pieces l = length l.pieces
