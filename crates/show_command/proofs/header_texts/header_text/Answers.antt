use Rattle.std.proofs.Common.{◌≡◌, ◌+◌, List, ℕ, [], ◌++◌, take, drop, length, append_assoc, append-nil, sym, ap, ◌∙◌, subst, arith}
use Rattle.std.proofs.lemmas.List.{length-append, length-take-le}
use Rattle.sfc_desk.specs.declared.ports.Port.TheVariants.{Source}
use Rattle.sfc_texts.specs.NshText.{ShowsNsh}
use Rattle.commands.proofs.CallLemmas.{on_ok_at}
use Rattle.show_command.proofs.SourceLemmas.{counts_on, moves_on, filled}
use Rattle.show_command.proofs.header_texts.header_text.Goals as goal

-- a piece was read
pub pieces-preserved : goal.pieces-preserved
pieces-preserved g c =
    let was = c.pieces.invariant.1 in
    let count = c.in_ok-count.count in
    let piece = take count c.deref.result.now in
    let same : c.deref.result.now ≡ c.next_piece.new.piece = c.deref.ensures.value ∙ filled c.pieces.piece.len c.next_piece.new.piece (drop (length c.next_piece.new.piece) c.pieces.piece.items) (c.next_piece.ensures.room ∙ c.deref_mut.ensures.len) in
    let long : length piece ≡ count = length-take-le count c.deref.result.now (omega (arith, ap length same, c.in_ok-count.ensures.count)) in (
      c.pieces.invariant.0,
      record {
        so_far = λ told.
            let some = was.so_far told in
            let read : (g.D.Desk.at c.pieces.desk Source).left ≡ piece ++ (g.D.Desk.at c.next_piece.new.desk Source).left =
            c.in_ok-count.ensures.bytes told ∙ ap (λ (b : List ℕ). take count b ++ (g.D.Desk.at c.next_piece.new.desk Source).left) (sym same) in (
              some.0 ++ piece,
              some.1 ∙ (ap (λ (l : List ℕ). some.0 ++ l) read ∙ sym (append_assoc some.0 piece (g.D.Desk.at c.next_piece.new.desk Source).left)),
              on_ok_at _ c.keep_front.result (sym c.is_err.ensures.value ∙ c.if-is_err.false) (c.keep_front.ensures.front some.0 some.2),
              omega (arith, length-append some.0 piece, long, some.3),
            );
        kept = omega (arith, was.kept, long, on_ok_at _ c.keep_front.result (sym c.is_err.ensures.value ∙ c.if-is_err.false) c.keep_front.ensures.count);
        small = c.in_ok-count.ensures.within;
        counts = counts_on (g.D.Desk.at c.args.desk.now) (g.D.Desk.at c.pieces.desk) (g.D.Desk.at c.next_piece.new.desk) was.counts c.in_ok-count.ensures.quiet;
        moves = moves_on g.D.Desk.tells Source (g.D.Desk.held c.args.desk.now) (g.D.Desk.held c.pieces.desk) (g.D.Desk.held c.next_piece.new.desk) (g.D.Desk.at c.args.desk.now) (g.D.Desk.at c.pieces.desk) (g.D.Desk.at c.next_piece.new.desk)
            was.moves c.in_ok-count.ensures.moves;
      },
    )

-- the source has ended
pub returns-in-Ok-text_of_front-clause-text : goal.returns-in-Ok-text_of_front-clause-text
returns-in-Ok-text_of_front-clause-text g c = λ told.
    let some = c.pieces.invariant.1.so_far told in
    let all : (g.D.Desk.at c.args.desk.now Source).left ≡ some.0 = some.1 ∙ (ap (λ (l : List ℕ). some.0 ++ l) (c.in_ok-count.ensures.end told c.if-count-eq0.true) ∙ append-nil some.0) in
    subst (λ (b : List ℕ). ShowsNsh b c.in-Ok-text_of_front.text) (sym all) (c.in-Ok-text_of_front.ensures some.0 some.2 some.3)
