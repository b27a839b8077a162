-- The next piece is decided, and then those behind it.
use Rattle.text_words.specs.Pieces.{pieces_of}
use Rattle.route_texts.specs.RouteLines.{SpellsRd}
use Rattle.route_texts.proofs.DecisionLemmas.{leads_next, leads_end}
use Rattle.route_texts.proofs.decisions.decide_some_rds.Goals as goal

pub pieces-preserved : goal.pieces-preserved
pieces-preserved c =
    leads_next SpellsRd c.pieces.pieces (pieces_of 44 c.args.word.now) c.in-Some.piece.now c.next.new.self c.pieces.invariant c.in-Some.ensures c.decide_rd.ensures

pub returns : goal.returns
returns c = leads_end SpellsRd c.pieces.pieces (pieces_of 44 c.args.word.now) c.pieces.invariant c.in_default.ensures.0
