use Rattle.std.proofs.Common.{◌≡◌, List, ℕ, ◌++◌, ap, sym, ◌∙◌, append_assoc, subst}
use Rattle.sfc_desk.specs.declared.ports.Port.TheVariants.{Report}
use Rattle.sfc_texts.specs.BgpText.{ShowsBgp}
use Rattle.commands.specs.Fronts.{IsFrontBehind}
use Rattle.show_command.proofs.StreamLemmas.{gave_none, gave_more, piece_front}
use Rattle.show_command.proofs.streams.show_piece.Goals as goal

-- a front of the lines was written
pub returns-in_err-report-clause-front : goal.returns-in_err-report-clause-front
returns-in_err-report-clause-front g c = λ told taken before left text gave shows.
    let was = (g.D.Desk.at c.args.desk.now Report).written in
    let now = (g.D.Desk.at c.report.new.desk Report).written in
    piece_front c.take_piece.new.lines taken c.args.piece.now before was now gave.given c.take_piece.new.out left text gave.put
    (c.in_ok-take_piece.ensures.history taken gave.given (gave_none c.args.lines.now taken before was c.clear.new.self c.clear.ensures gave)) shows
    (subst (λ (b : List ℕ). IsFrontBehind was now b) c.as_slice.ensures (c.report.ensures.front told))

-- they were written
pub returns-clause-goes_on : goal.returns-clause-goes_on
returns-clause-goes_on g c = λ told taken before gave.
    let was = (g.D.Desk.at c.args.desk.now Report).written in
    let now = (g.D.Desk.at c.report.new.desk Report).written in
    gave_more c.take_piece.new.lines (taken ++ c.args.piece.now) before was c.take_piece.new.out now gave.given gave.put
    (c.in_ok-take_piece.ensures.history taken gave.given (gave_none c.args.lines.now taken before was c.clear.new.self c.clear.ensures gave))
    (c.in_ok-report.ensures.ok told ∙ ap (λ (b : List ℕ). was ++ b) c.as_slice.ensures)

pub returns-clause-front : goal.returns-clause-front
returns-clause-front g c = λ told taken before left text gave shows.
    let was = (g.D.Desk.at c.args.desk.now Report).written in
    let now = (g.D.Desk.at c.report.new.desk Report).written in
    piece_front c.take_piece.new.lines taken c.args.piece.now before was now gave.given c.take_piece.new.out left text gave.put
    (c.in_ok-take_piece.ensures.history taken gave.given (gave_none c.args.lines.now taken before was c.clear.new.self c.clear.ensures gave)) shows
    (subst (λ (b : List ℕ). IsFrontBehind was now b) c.as_slice.ensures (c.report.ensures.front told))
