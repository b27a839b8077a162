use Rattle.std.proofs.Common.{◌≡◌, List, ℕ, ◌++◌, ap, ◌∙◌, subst}
use Rattle.sfc_desk.specs.declared.ports.Port.TheVariants.{Report}
use Rattle.commands.specs.Fronts.{IsFrontBehind}
use Rattle.show_command.proofs.StreamLemmas.{gave_front_of, gave_none, end_front, all_behind}
use Rattle.show_command.proofs.streams.show_end.Goals as goal

-- nothing was written
pub returns-in_err-finish-clause-front : goal.returns-in_err-finish-clause-front
returns-in_err-finish-clause-front g c = λ told taken before text gave shows.
    gave_front_of c.args.lines.now taken before (g.D.Desk.at c.args.desk.now Report).written text gave shows

-- a front of the last lines was written
pub returns-in_err-report-clause-front : goal.returns-in_err-report-clause-front
returns-in_err-report-clause-front g c = λ told taken before text gave shows.
    let was = (g.D.Desk.at c.args.desk.now Report).written in
    let now = (g.D.Desk.at c.report.new.desk Report).written in
    end_front taken before was now gave.given c.finish.new.out text gave.put
    (c.in_ok-finish.ensures taken gave.given (gave_none c.args.lines.now taken before was c.clear.new.self c.clear.ensures gave)) shows
    (subst (λ (b : List ℕ). IsFrontBehind was now b) c.as_slice.ensures (c.report.ensures.front told))

-- they were written
pub returns-clause-whole : goal.returns-clause-whole
returns-clause-whole g c = λ told taken before gave.
    let was = (g.D.Desk.at c.args.desk.now Report).written in
    let now = (g.D.Desk.at c.report.new.desk Report).written in (
      gave.given ++ c.finish.new.out,
      c.in_ok-finish.ensures taken gave.given (gave_none c.args.lines.now taken before was c.clear.new.self c.clear.ensures gave),
      all_behind before was now gave.given c.finish.new.out gave.put (c.in_ok-report.ensures.ok told ∙ ap (λ (b : List ℕ). was ++ b) c.as_slice.ensures),
    )

pub returns-clause-front : goal.returns-clause-front
returns-clause-front g c = λ told taken before text gave shows.
    let was = (g.D.Desk.at c.args.desk.now Report).written in
    let now = (g.D.Desk.at c.report.new.desk Report).written in
    end_front taken before was now gave.given c.finish.new.out text gave.put
    (c.in_ok-finish.ensures taken gave.given (gave_none c.args.lines.now taken before was c.clear.new.self c.clear.ensures gave)) shows
    (subst (λ (b : List ℕ). IsFrontBehind was now b) c.as_slice.ensures (c.report.ensures.front told))
