-- The first change makes a version, and then the others behind it.
use Rattle.std.proofs.Common.{List, [], ◌∷◌, ◌++◌, ap, append_assoc, sym, subst, ◌∙◌}
use Rattle.std.specs.Prelude.{OnOk}
use Rattle.sfc_routes.specs.declared.route_changes.RouteChange.{RouteChange}
use Rattle.sfc_routes.specs.LastWords.{Stands as AreAfter}
use Rattle.worker_run.specs.Publications.{Adds, AddsOne}
use Rattle.worker_run.proofs.StepLemmas.{on_ok}
use Rattle.worker_run.proofs.VersionLemmas.{adds_more, adds_one}
use Rattle.worker_run.proofs.versions.Versions.+add_all.Goals as goal

pub returns-clause-routes : goal.returns-clause-routes
returns-clause-routes t c = λ before stand.
    let x = c.in-Some.change.now in
    let rest = c.in-Some.rest.now in
    subst (λ (l : List RouteChange). OnOk c.add_all.result (AreAfter c.add_all.new.routes l)) (append_assoc before (x ∷ []) rest ∙ ap (λ (l : List RouteChange). before ++ l) (sym c.in-Some.ensures.cases.0))
    (c.add_all.ensures.routes (before ++ x ∷ []) (c.in_ok-apply.ensures.history before stand))

pub returns-clause-versions : goal.returns-clause-versions
returns-clause-versions t c = λ before stand table.
    let x = c.in-Some.change.now in
    let rest = c.in-Some.rest.now in
    let roster = c.args.roster.now in
    let opening = c.args.opening.now in
    let old = c.args.self.now in
    let mid = c.add.new.self in
    let new = c.add_all.new.self in
    let here = c.in_ok-apply.ensures.history before stand in
    let added : AddsOne roster (before ++ x ∷ []) opening old mid = c.in_ok-add.ensures (before ++ x ∷ []) here in
    let one : Adds roster before (x ∷ []) opening old mid = adds_one roster before x opening old mid table added in
    subst (λ (l : List RouteChange). OnOk c.add_all.result (Adds roster before l opening old new)) (sym c.in-Some.ensures.cases.0)
    (on_ok c.add_all.result (Adds roster (before ++ x ∷ []) rest opening mid new) (Adds roster before (x ∷ rest) opening old new)
    (c.add_all.ensures.versions (before ++ x ∷ []) here added.table_is)
    (λ more. adds_more roster before (x ∷ []) rest opening old mid new one more))
