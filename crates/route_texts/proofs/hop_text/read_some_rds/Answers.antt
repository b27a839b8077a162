-- One RD more is that of the next piece, or the piece spells none.
use Rattle.std.proofs.Common.{ℕ, List, sym, subst}
use Rattle.text_words.specs.Pieces.{pieces_of}
use Rattle.route_texts.specs.RouteLines.{SpellsRd}
use Rattle.route_texts.proofs.EachLemmas.{Seen, seen_more, seen_bad}
use Rattle.route_texts.proofs.hop_text.read_some_rds.Goals as goal

pub returns-in_default-read_octets : goal.returns-in_default-read_octets
returns-in_default-read_octets c = λ v each.
    seen_bad SpellsRd (pieces_of 44 c.args.word.now) c.pieces.pieces c.in-Some.piece.now c.next.new.self c.pieces.rds c.pieces.invariant c.in-Some.ensures
    (λ rd s. c.in_default-read_octets.ensures rd s.0 s.1) v each

pub pieces-preserved : goal.pieces-preserved
pieces-preserved c =
    subst (λ (l : List (List ℕ)). Seen SpellsRd (pieces_of 44 c.args.word.now) c.next.new.self l) (sym c.in_ok-push.ensures.ok)
    (seen_more SpellsRd (pieces_of 44 c.args.word.now) c.pieces.pieces c.in-Some.piece.now c.next.new.self c.pieces.rds c.in-Some-read_octets.rd
    c.pieces.invariant c.in-Some.ensures c.in-Some-read_octets.ensures)
