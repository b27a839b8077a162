-- One target more is that of the next piece, or the piece spells none.
use Rattle.std.proofs.Common.{ℕ, List, sym, subst}
use Rattle.text_words.specs.Pieces.{pieces_of}
use Rattle.route_texts.specs.RouteLines.{SpellsTarget}
use Rattle.route_texts.proofs.EachLemmas.{Seen, seen_more, seen_bad}
use Rattle.route_texts.proofs.target_text.read_some_targets.Goals as goal

pub returns-in_default-read_target : goal.returns-in_default-read_target
returns-in_default-read_target c = λ v each.
    seen_bad SpellsTarget (pieces_of 44 c.args.word.now) c.pieces.pieces c.in-Some.piece.now c.next.new.self c.pieces.targets c.pieces.invariant c.in-Some.ensures
    c.in_default-read_target.ensures v each

pub pieces-preserved : goal.pieces-preserved
pieces-preserved c =
    subst (λ (l : List (List ℕ)). Seen SpellsTarget (pieces_of 44 c.args.word.now) c.next.new.self l) (sym c.in_ok-push.ensures.ok)
    (seen_more SpellsTarget (pieces_of 44 c.args.word.now) c.pieces.pieces c.in-Some.piece.now c.next.new.self c.pieces.targets c.in-Some-read_target.target
    c.pieces.invariant c.in-Some.ensures c.in-Some-read_target.ensures)
