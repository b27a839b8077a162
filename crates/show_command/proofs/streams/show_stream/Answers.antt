use Rattle.std.proofs.Common.{◌≡◌, ◌+◌, ◌^◌, ◌≤◌, List, ℕ, [], ◌++◌, take, drop, length, append-nil, inl, inr, Err, refl, sym, ap, ◌∙◌, subst, arith}
use Rattle.std.proofs.lemmas.List.{length-append, length-take-le}
use Rattle.sfc_desk.specs.declared.ports.Port.TheVariants.{Source, Report}
use Rattle.sfc_desk.specs.Desks.{Shown}
use Rattle.sfc_texts.specs.BgpText.{ShowsBgp}
use Rattle.commands.specs.declared.statuses.Status.TheVariants.{Ok, Memory}
use Rattle.show_command.specs.declared.show_words.Format.TheVariants.{Bgp}
use Rattle.show_command.proofs.SourceLemmas.{source_is_no_report, touched_on, counts_on, shows_quietly, shows_failed, piece_read, piece_reported, streams_on, all_read, filled}
use Rattle.show_command.proofs.streams.show_stream.Goals as goal

-- a piece was read, and its lines were not written
pub returns-in-Err-File-show_piece : goal.returns-in-Err-File-show_piece
returns-in-Err-File-show_piece g c =
    let tells = g.D.Desk.tells in
    let was = c.pieces.invariant.1 in
    let then = g.D.Desk.at c.args.desk.now in
    let head = g.D.Desk.at c.pieces.desk in
    let mid = g.D.Desk.at c.next_piece.new.desk in
    let now = g.D.Desk.at c.show_piece.new.desk in
    let piece = take c.in-Ok-next_piece.count c.deref.result.now in
    let same : c.deref.result.now ≡ c.next_piece.new.piece = c.deref.ensures.value ∙ filled c.pieces.piece.len c.next_piece.new.piece (drop (length c.next_piece.new.piece) c.pieces.piece.items) (c.next_piece.ensures.room ∙ c.deref_mut.ensures.len) in
    shows_failed Bgp tells Report (g.D.Desk.held c.next_piece.new.desk) (g.D.Desk.held c.show_piece.new.desk) then mid now (inr refl)
    (touched_on tells Source (g.D.Desk.held c.pieces.desk) (g.D.Desk.held c.next_piece.new.desk) then head mid (inl refl) was.touched c.next_piece.ensures.moves)
    (counts_on then head mid was.counts c.in-Ok-next_piece.ensures.quiet) c.show_piece.ensures.moves (c.in-Err-File-show_piece.ensures.cause (ap Err c.in-Err-File-show_piece.field-0-is))
    (λ told. piece_reported then mid (now Report).written c.pieces.lines piece c.pieces.total
    (piece_read tells (g.D.Desk.held c.pieces.desk) (g.D.Desk.held c.next_piece.new.desk) then head mid c.pieces.lines piece c.pieces.total told was c.next_piece.ensures.moves
    (c.in-Ok-next_piece.ensures.bytes told ∙ ap (λ (b : List ℕ). take c.in-Ok-next_piece.count b ++ (mid Source).left) (sym same)))
    (c.show_piece.ensures.front told))

pub returns-in-Err-OutOfMemory-show_piece : goal.returns-in-Err-OutOfMemory-show_piece
returns-in-Err-OutOfMemory-show_piece g c =
    let tells = g.D.Desk.tells in
    let was = c.pieces.invariant.1 in
    let then = g.D.Desk.at c.args.desk.now in
    let head = g.D.Desk.at c.pieces.desk in
    let mid = g.D.Desk.at c.next_piece.new.desk in
    let now = g.D.Desk.at c.show_piece.new.desk in
    let piece = take c.in-Ok-next_piece.count c.deref.result.now in
    let same : c.deref.result.now ≡ c.next_piece.new.piece = c.deref.ensures.value ∙ filled c.pieces.piece.len c.next_piece.new.piece (drop (length c.next_piece.new.piece) c.pieces.piece.items) (c.next_piece.ensures.room ∙ c.deref_mut.ensures.len) in
    shows_quietly Bgp tells then now Memory
    (touched_on tells Report (g.D.Desk.held c.next_piece.new.desk) (g.D.Desk.held c.show_piece.new.desk) then mid now (inr refl)
    (touched_on tells Source (g.D.Desk.held c.pieces.desk) (g.D.Desk.held c.next_piece.new.desk) then head mid (inl refl) was.touched c.next_piece.ensures.moves) c.show_piece.ensures.moves)
    (counts_on then mid now (counts_on then head mid was.counts c.in-Ok-next_piece.ensures.quiet) (c.in-Err-OutOfMemory-show_piece.ensures.spared (ap Err c.in-Err-OutOfMemory-show_piece.field-0-is)))
    (λ told. piece_reported then mid (now Report).written c.pieces.lines piece c.pieces.total
    (piece_read tells (g.D.Desk.held c.pieces.desk) (g.D.Desk.held c.next_piece.new.desk) then head mid c.pieces.lines piece c.pieces.total told was c.next_piece.ensures.moves
    (c.in-Ok-next_piece.ensures.bytes told ∙ ap (λ (b : List ℕ). take c.in-Ok-next_piece.count b ++ (mid Source).left) (sym same)))
    (c.show_piece.ensures.front told))

-- its lines were written
pub pieces-preserved : goal.pieces-preserved
pieces-preserved g c =
    let tells = g.D.Desk.tells in
    let then = g.D.Desk.at c.args.desk.now in
    let head = g.D.Desk.at c.pieces.desk in
    let mid = g.D.Desk.at c.next_piece.new.desk in
    let now = g.D.Desk.at c.show_piece.new.desk in
    let count = c.in-Ok-next_piece.count in
    let piece = take count c.deref.result.now in
    let same : c.deref.result.now ≡ c.next_piece.new.piece = c.deref.ensures.value ∙ filled c.pieces.piece.len c.next_piece.new.piece (drop (length c.next_piece.new.piece) c.pieces.piece.items) (c.next_piece.ensures.room ∙ c.deref_mut.ensures.len) in (
      c.pieces.invariant.0,
      streams_on tells (g.D.Desk.held c.pieces.desk) (g.D.Desk.held c.next_piece.new.desk) (g.D.Desk.held c.next_piece.new.desk) (g.D.Desk.held c.show_piece.new.desk) then head mid now c.pieces.lines c.show_piece.new.lines piece c.pieces.total count
          c.pieces.invariant.1 c.next_piece.ensures.moves c.in-Ok-next_piece.ensures.quiet
          (λ told. c.in-Ok-next_piece.ensures.bytes told ∙ ap (λ (b : List ℕ). take count b ++ (mid Source).left) (sym same))
          (length-take-le count c.deref.result.now (omega (arith, ap length same, c.in-Ok-next_piece.ensures.count)))
          c.in-Ok-next_piece.ensures.within c.show_piece.ensures.moves c.in-Ok-show_piece.ensures.quiet c.in-Ok-show_piece.ensures.goes_on c.in-Ok-show_piece.ensures.count,
    )

-- the stream has ended, and its lines were written
pub returns-in-Ok-show_end : goal.returns-in-Ok-show_end
returns-in-Ok-show_end g c =
    let tells = g.D.Desk.tells in
    let was = c.pieces.invariant.1 in
    let then = g.D.Desk.at c.args.desk.now in
    let head = g.D.Desk.at c.pieces.desk in
    let mid = g.D.Desk.at c.next_piece.new.desk in
    let now = g.D.Desk.at c.show_end.new.desk in
    let read = touched_on tells Source (g.D.Desk.held c.pieces.desk) (g.D.Desk.held c.next_piece.new.desk) then head mid (inl refl) was.touched c.next_piece.ensures.moves in
    let quiet = counts_on then head mid was.counts c.in-Ok-next_piece.ensures.quiet in
    shows_quietly Bgp tells then now Ok
    (touched_on tells Report (g.D.Desk.held c.next_piece.new.desk) (g.D.Desk.held c.show_end.new.desk) then mid now (inr refl) read c.show_end.ensures.moves)
    (counts_on then mid now quiet c.in-Ok-show_end.ensures.quiet)
    (λ told.
    let some = all_read tells (g.D.Desk.held c.pieces.desk) (g.D.Desk.held c.next_piece.new.desk) then head mid c.pieces.lines (take c.in-Ok-next_piece.count c.next_piece.new.piece) c.pieces.total told was c.next_piece.ensures.moves
    (c.in-Ok-next_piece.ensures.bytes told) (c.in-Ok-next_piece.ensures.end told c.if-count-eq0.true) in
    let done = c.in-Ok-show_end.ensures.whole told some.0 (then Report).written some.3 in (
      omega (arith, ap length some.1, some.2, was.small),
      ap (λ (s : Shown). s.left) (c.show_end.ensures.moves.elsewhere Source source_is_no_report) ∙ some.4,
      (done.0, subst (λ (b : List ℕ). ShowsBgp b done.0) (sym some.1) done.1, done.2),
    ))

-- or a front of them was
pub returns-in-Err-File-show_end : goal.returns-in-Err-File-show_end
returns-in-Err-File-show_end g c =
    let tells = g.D.Desk.tells in
    let was = c.pieces.invariant.1 in
    let then = g.D.Desk.at c.args.desk.now in
    let head = g.D.Desk.at c.pieces.desk in
    let mid = g.D.Desk.at c.next_piece.new.desk in
    let now = g.D.Desk.at c.show_end.new.desk in
    let read = touched_on tells Source (g.D.Desk.held c.pieces.desk) (g.D.Desk.held c.next_piece.new.desk) then head mid (inl refl) was.touched c.next_piece.ensures.moves in
    let quiet = counts_on then head mid was.counts c.in-Ok-next_piece.ensures.quiet in
    shows_failed Bgp tells Report (g.D.Desk.held c.next_piece.new.desk) (g.D.Desk.held c.show_end.new.desk) then mid now (inr refl) read quiet c.show_end.ensures.moves
    (c.in-Err-File-show_end.ensures.cause (ap Err c.in-Err-File-show_end.field-0-is))
    (λ told text shows.
    let some = all_read tells (g.D.Desk.held c.pieces.desk) (g.D.Desk.held c.next_piece.new.desk) then head mid c.pieces.lines (take c.in-Ok-next_piece.count c.next_piece.new.piece) c.pieces.total told was c.next_piece.ensures.moves
    (c.in-Ok-next_piece.ensures.bytes told) (c.in-Ok-next_piece.ensures.end told c.if-count-eq0.true) in
    c.show_end.ensures.front told some.0 (then Report).written text some.3 (subst (λ (b : List ℕ). ShowsBgp b text) some.1 shows))

pub returns : goal.returns
returns g c =
    let tells = g.D.Desk.tells in
    let was = c.pieces.invariant.1 in
    let then = g.D.Desk.at c.args.desk.now in
    let head = g.D.Desk.at c.pieces.desk in
    let mid = g.D.Desk.at c.next_piece.new.desk in
    let now = g.D.Desk.at c.show_end.new.desk in
    let read = touched_on tells Source (g.D.Desk.held c.pieces.desk) (g.D.Desk.held c.next_piece.new.desk) then head mid (inl refl) was.touched c.next_piece.ensures.moves in
    let quiet = counts_on then head mid was.counts c.in-Ok-next_piece.ensures.quiet in
    shows_quietly Bgp tells then now Memory
    (touched_on tells Report (g.D.Desk.held c.next_piece.new.desk) (g.D.Desk.held c.show_end.new.desk) then mid now (inr refl) read c.show_end.ensures.moves)
    (counts_on then mid now quiet (c.in-Err-OutOfMemory-show_end.ensures.spared (ap Err c.in-Err-OutOfMemory-show_end.field-0-is)))
    (λ told text shows.
    let some = all_read tells (g.D.Desk.held c.pieces.desk) (g.D.Desk.held c.next_piece.new.desk) then head mid c.pieces.lines (take c.in-Ok-next_piece.count c.next_piece.new.piece) c.pieces.total told was c.next_piece.ensures.moves
    (c.in-Ok-next_piece.ensures.bytes told) (c.in-Ok-next_piece.ensures.end told c.if-count-eq0.true) in
    c.show_end.ensures.front told some.0 (then Report).written text some.3 (subst (λ (b : List ℕ). ShowsBgp b text) some.1 shows))
