-- The next piece is decided, and then those behind it.
use Rattle.text_words.specs.Pieces.{pieces_of}
use Rattle.route_texts.specs.RouteLines.{SpellsTarget}
use Rattle.route_texts.proofs.DecisionLemmas.{leads_next, leads_end}
use Rattle.route_texts.proofs.decisions.decide_some_targets.Goals as goal

pub pieces-preserved : goal.pieces-preserved
pieces-preserved c =
    leads_next SpellsTarget c.pieces.pieces (pieces_of 44 c.args.word.now) c.in-Some.piece.now c.next.new.self c.pieces.invariant c.in-Some.ensures c.decide_target.ensures

pub returns : goal.returns
returns c = leads_end SpellsTarget c.pieces.pieces (pieces_of 44 c.args.word.now) c.pieces.invariant c.in_default.ensures.0
