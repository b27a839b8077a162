-- The first change, and then the others behind it.
use Rattle.std.proofs.Common.{List, [], ◌∷◌, ◌++◌, ap, append_assoc, sym, subst, ◌∙◌}
use Rattle.std.specs.Prelude.{OnOk}
use Rattle.sfc_routes.specs.declared.route_changes.RouteChange.{RouteChange}
use Rattle.sfc_routes.specs.LastWords.{Stands as AreAfter}
use Rattle.worker_run.proofs.controls.+apply_all.Goals as goal

pub returns-in_ok-apply-in-Some : goal.returns-in_ok-apply-in-Some
returns-in_ok-apply-in-Some t c = λ before after.
    let x = c.in-Some.change.now in
    let rest = c.in-Some.rest.now in
    subst (λ (l : List RouteChange). OnOk c.apply_all.result (AreAfter c.apply_all.new.routes l)) (append_assoc before (x ∷ []) rest ∙ ap (λ (l : List RouteChange). before ++ l) (sym c.in-Some.ensures.cases.0))
    (c.apply_all.ensures (before ++ x ∷ []) (c.in_ok-apply-in-Some.ensures.history before after))
