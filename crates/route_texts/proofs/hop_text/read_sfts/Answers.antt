-- One type more is that of the next piece, or the piece spells none.
use Rattle.std.proofs.Common.{List, Option, Ok, sym, subst}
use Rattle.text_words.specs.Pieces.{pieces_of}
use Rattle.sfp_attribute.specs.declared.sfps.HopPart.{HopPart}
use Rattle.route_texts.specs.RouteLines.{SpellsSft}
use Rattle.route_texts.specs.Steps.{Found}
use Rattle.route_texts.proofs.EachLemmas.{Seen, seen_more, seen_bad}
use Rattle.route_texts.proofs.hop_text.read_sfts.Goals as goal

pub returns-in_default-2 : goal.returns-in_default-2
returns-in_default-2 c = λ v each.
    seen_bad SpellsSft (pieces_of 59 c.args.word.now) c.pieces.pieces c.in-Some.piece.now c.next.new.self c.pieces.sfts c.pieces.invariant c.in-Some.ensures
    (subst (λ (o : Option HopPart). Found SpellsSft c.in-Some.piece.now (Ok o)) c.in_default-2.is c.in_ok-sft.ensures) v each

pub pieces-preserved : goal.pieces-preserved
pieces-preserved c =
    subst (λ (l : List HopPart). Seen SpellsSft (pieces_of 59 c.args.word.now) c.next.new.self l) (sym c.in_ok-push.ensures.ok)
    (seen_more SpellsSft (pieces_of 59 c.args.word.now) c.pieces.pieces c.in-Some.piece.now c.next.new.self c.pieces.sfts c.in-Some-2.sft
    c.pieces.invariant c.in-Some.ensures
    (subst (λ (o : Option HopPart). Found SpellsSft c.in-Some.piece.now (Ok o)) c.in-Some-2.is c.in_ok-sft.ensures))
