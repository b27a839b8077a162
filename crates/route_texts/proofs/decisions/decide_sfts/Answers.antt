-- The next piece is decided, and then those behind it.
use Rattle.text_words.specs.Pieces.{pieces_of}
use Rattle.route_texts.specs.RouteLines.{SpellsSft}
use Rattle.route_texts.proofs.DecisionLemmas.{leads_next, leads_end}
use Rattle.route_texts.proofs.decisions.decide_sfts.Goals as goal

pub pieces-preserved : goal.pieces-preserved
pieces-preserved c =
    leads_next SpellsSft c.pieces.pieces (pieces_of 59 c.args.word.now) c.in-Some.piece.now c.next.new.self c.pieces.invariant c.in-Some.ensures c.decide_sft.ensures

pub returns : goal.returns
returns c = leads_end SpellsSft c.pieces.pieces (pieces_of 59 c.args.word.now) c.pieces.invariant c.in_default.ensures.0
