-- The routes take the changes that were heard.
use Rattle.std.proofs.Common.{◌+◌, ℕ, List, [], ◌∷◌, ◌++◌, length, ap, sym, subst, ◌∙◌}
use Rattle.sfc_routes.specs.declared.route_changes.RouteChange.{RouteChange}
use Rattle.sfc_routes.specs.LastWords.{Stands as AreAfter}
use Rattle.session_machine.specs.Peers.{AllHold}
use Rattle.control_histories.specs.Logs.{changes_of}
use Rattle.worker_run.specs.declared.controls.Control.{Control}
use Rattle.worker_run.specs.Controls.{Took}
use Rattle.worker_run.proofs.ControlLemmas.{took_one}
use Rattle.worker_run.proofs.StepLemmas.{ok_any, on_ok}
use Rattle.worker_run.proofs.controls.Control.step.Goals as goal

pub returns-clause-history : goal.returns-clause-history
returns-clause-history c = λ history log x.
    let s = c.args.segment.now in
    let changes = c.in_ok-changes.changes in
    let before = c.args.replies.now in
    let after = c.hear.new.replies in
    let heard = c.hear.new.self in
    let new : Control = record heard { routes = c.apply_all.new.routes } in
    let stand : AreAfter heard.routes (changes_of log) = subst (λ r. AreAfter r (changes_of log)) (sym c.hear.ensures.routes) x.routes in
    on_ok c.apply_all.result (AreAfter new.routes (changes_of log ++ c.as_slice.result.now)) (Took new history log (s ∷ []) before after) (c.apply_all.ensures (changes_of log) stand)
    (λ routes. took_one new history log s changes before after (c.in_ok-changes.ensures.history history log x.hears) (subst (λ (l : List RouteChange). AreAfter new.routes (changes_of log ++ l)) c.as_slice.ensures routes)
    (c.in_ok-changes.ensures.version ∙ ap (λ (v : ℕ). v + length changes) x.version))

pub returns-clause-count : goal.returns-clause-count
returns-clause-count c = λ most hold. ok_any c.apply_all.result (AllHold (most + length c.args.segment.now.bytes) c.hear.new.self.sessions.sessions.items) (c.in_ok-changes.ensures.count most hold)
