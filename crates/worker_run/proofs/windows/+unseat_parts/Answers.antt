-- The first part's seat, and then those of the others.
use Rattle.std.proofs.Common.{List, ◌∷◌, All, sym, subst}
use Rattle.std.specs.Prelude.{OnOk}
use Rattle.std.specs.List.{AllByRecursion, AllZip}
use Rattle.table_publish.specs.Publications.{Extends}
use Rattle.table_publish.specs.Views.{SeatView}
use Rattle.worker_run.specs.declared.parts.Part.{Part}
use Rattle.worker_run.specs.Shares.{SeesFront, Unseated}
use Rattle.worker_run.proofs.StepLemmas.{on_ok}
use Rattle.worker_run.proofs.WindowLemmas.{unseated_same}
use Rattle.worker_run.proofs.windows.+unseat_parts.Goals as goal

pub returns-in_err-unseat-clause-parts : goal.returns-in_err-unseat-clause-parts
returns-in_err-unseat-clause-parts t c =
    subst (λ (l : List Part). AllZip Unseated l (c.unseat.new.part ∷ c.in-Some.rest.now)) (sym c.in-Some.ensures.cases.0) (c.unseat.ensures.part, unseated_same c.in-Some.rest.now)

pub returns-clause-kept : goal.returns-clause-kept
returns-clause-kept t c = λ published.
    let old : List SeatView = c.args.seats.now in
    let mid : List SeatView = c.unseat.new.seats in
    let new : List SeatView = c.unseat_parts.new.seats in
    let E : List SeatView → Type 0 = λ l. All (λ (s : SeatView). Extends published s.seen) l in
    let F : List Part → Type 0 = λ l. AllByRecursion (λ (p : Part). SeesFront published p.seat) l in
    subst (λ (l : List Part). OnOk c.unseat_parts.result (E new → F l × E old)) (sym c.in-Some.ensures.cases.0)
    (on_ok c.unseat_parts.result (E new → F c.in-Some.rest.now × E mid) (E new → F (c.in-Some.part.now ∷ c.in-Some.rest.now) × E old) (c.unseat_parts.ensures.kept published)
    (λ later. λ all.
    let behind = later all in
    let here = c.in_ok-unseat.ensures.kept published behind.1 in
    ((here.0, behind.0), here.1)))
