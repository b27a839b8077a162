-- The seat that is kept is the one that the part had.
use Rattle.std.proofs.Common.{List, Option, All, subst}
use Rattle.std.specs.Prelude.{OnOk}
use Rattle.table_publish.specs.Publications.{Extends}
use Rattle.table_publish.specs.Views.{SeatView}
use Rattle.worker_run.specs.Shares.{SeesFront}
use Rattle.worker_run.proofs.windows.unseat.Goals as goal

pub returns-clause-kept : goal.returns-clause-kept
returns-clause-kept c = λ published.
    let E : List SeatView → Type 0 = λ l. All (λ (s : SeatView). Extends published s.seen) l in
    subst (λ (s : Option SeatView). OnOk c.keep_seat.result (E c.keep_seat.new.seats → SeesFront published s × E c.args.seats.now)) c.take-seat.ensures.value (c.keep_seat.ensures.kept published)
