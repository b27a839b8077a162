-- The seats of a window see a front of what is published in it.
use Rattle.std.proofs.Common.{◌∙◌, ap, sym, subst}
use Rattle.std.specs.List.{AllByRecursion, AllZip}
use Rattle.logbook.specs.Pages.{Book}
use Rattle.table_publish.specs.Publications.{Publications, opened_on}
use Rattle.worker_run.specs.declared.parts.Part.{Part}
use Rattle.worker_run.specs.Shares.{IsOfWindow, Seated, SeesFront, Worked, longer_by, published_on}
use Rattle.worker_run.proofs.ShareLemmas.{parts_worked, same_shape}
use Rattle.worker_run.proofs.StepLemmas.{on_ok}
use Rattle.worker_run.proofs.WindowLemmas.{filled_windows, seated_ready, window_shape}
use Rattle.worker_run.proofs.windows.fill_in_window.Goals as goal

pub returns-in_err-publisher-clause-shape : goal.returns-in_err-publisher-clause-shape
returns-in_err-publisher-clause-shape g c = same_shape c.args.parts.now

pub fill_beside-published-requires-after_bounds : goal.fill_beside-published-requires-after_bounds
fill_beside-published-requires-after_bounds g c κs within =
    seated_ready c.in_ok-publisher.publisher.window c.in_ok-publisher.publisher.published c.args.parts.now c.seat_parts.new.parts c.requires.limits c.seat_parts.ensures.parts

pub close_window-closed-requires-clause-parts : goal.close_window-closed-requires-clause-parts
close_window-closed-requires-clause-parts g c =
    subst (λ (w : Book). AllByRecursion (λ (p : Part). IsOfWindow w p.seat) c.fill_beside-published.new.parts) (sym c.fill_beside-published.ensures.window)
    (filled_windows c.args.setup.now c.args.table.now c.args.version c.in_ok-publisher.publisher.window c.in_ok-publisher.publisher.published c.args.parts.now c.seat_parts.new.parts c.fill_beside-published.new.parts
    c.seat_parts.ensures.parts c.fill_beside-published.ensures.parts)

pub returns-in_err-published-clause-shape : goal.returns-in_err-published-clause-shape
returns-in_err-published-clause-shape g c =
    window_shape c.args.setup.now c.args.table.now c.args.version c.in_ok-publisher.publisher.window c.in_ok-publisher.publisher.published c.args.parts.now c.seat_parts.new.parts c.fill_beside-published.new.parts c.close_window-closed.new.parts
    c.seat_parts.ensures.parts c.fill_beside-published.ensures.parts c.close_window-closed.ensures.parts

pub returns-clause-shape : goal.returns-clause-shape
returns-clause-shape g c =
    window_shape c.args.setup.now c.args.table.now c.args.version c.in_ok-publisher.publisher.window c.in_ok-publisher.publisher.published c.args.parts.now c.seat_parts.new.parts c.fill_beside-published.new.parts c.close_window-closed.new.parts
    c.seat_parts.ensures.parts c.fill_beside-published.ensures.parts c.close_window-closed.ensures.parts

pub returns-clause-worked : goal.returns-clause-worked
returns-clause-worked g c =
    let setup = c.args.setup.now in
    let table = c.args.table.now in
    let version = c.args.version in
    let lists = c.args.lists.now.items in
    let publisher = c.in_ok-publisher.publisher in
    let ps = c.args.parts.now in
    let qs = c.seat_parts.new.parts in
    let rs = c.fill_beside-published.new.parts in
    let ss = c.close_window-closed.new.parts in
    let F : Publications → Type 0 = λ p. AllByRecursion (λ (r : Part). SeesFront p r.seat) rs in
    let opened = c.in_ok-publisher.ensures.publisher.0 in
    let all = c.in_ok-published.ensures.published ∙ ap (λ (p : Publications). longer_by p lists) opened in
    let seated : AllZip (Seated publisher.window (opened_on table version)) ps qs = subst (λ (p : Publications). AllZip (Seated publisher.window p) ps qs) opened c.seat_parts.ensures.parts in
    on_ok c.close_window-closed.result (F c.fill_beside-published.new.publisher.published) (AllZip (Worked setup (published_on table version lists)) ps ss) c.close_window-closed.ensures.fronts
    (λ fronts. parts_worked setup table version lists publisher.window ps qs rs ss seated c.fill_beside-published.ensures.parts (subst F all fronts) c.close_window-closed.ensures.parts)
