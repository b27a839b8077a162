-- The routes take the changes that were heard, and each makes a version.
use Rattle.std.proofs.Common.{◌≡◌, ◌+◌, ℕ, List, [], ◌∷◌, ◌++◌, length, ap, sym, subst, ◌∙◌}
use Rattle.sfc_routes.specs.declared.route_changes.RouteChange.{RouteChange}
use Rattle.sfc_routes.specs.LastWords.{Stands as AreAfter}
use Rattle.session_machine.specs.Groups.{Entry}
use Rattle.session_machine.specs.Peers.{AllHold}
use Rattle.control_files.specs.declared.segments.Segment.{Segment}
use Rattle.control_histories.specs.Logs.{changes_of}
use Rattle.worker_run.specs.declared.controls.Control.{Control}
use Rattle.worker_run.specs.Controls.{Follows, Took}
use Rattle.worker_run.specs.Publications.{Adds, TookEach}
use Rattle.worker_run.proofs.ControlLemmas.{took_one}
use Rattle.worker_run.proofs.EachLemmas.{changes_one}
use Rattle.worker_run.proofs.StepLemmas.{ok_any, on_both, on_ok}
use Rattle.worker_run.proofs.controls.Control.step_each.Goals as goal

stand : (c : goal.After-drop-changes-inside) (history : List Segment) (log : List Entry) → Follows c.args.self.now history log → AreAfter c.hear.new.self.routes (changes_of log)
stand c history log x = subst (λ r. AreAfter r (changes_of log)) (sym c.hear.ensures.routes) x.routes

abbrev new-control : goal.After-drop-changes-inside → Control
new-control c = record { sessions = c.hear.new.self.sessions; routes = c.add_all.new.routes; version = c.hear.new.self.version }

abbrev took : (c : goal.After-drop-changes-inside) (history : List Segment) (log : List Entry) (x : Follows c.args.self.now history log) → AreAfter c.add_all.new.routes (changes_of log ++ c.as_slice.result.now)
    → Took (new-control c) history log (c.args.segment.now ∷ []) c.args.replies.now c.hear.new.replies
took c history log x routes =
    let changes = c.in_ok-changes.changes in
    took_one (new-control c) history log c.args.segment.now changes c.args.replies.now c.hear.new.replies (c.in_ok-changes.ensures.history history log x.hears)
    (subst (λ (l : List RouteChange). AreAfter c.add_all.new.routes (changes_of log ++ l)) c.as_slice.ensures routes) (c.in_ok-changes.ensures.version ∙ ap (λ (v : ℕ). v + length changes) x.version)

pub returns-clause-took : goal.returns-clause-took
returns-clause-took c = λ history log x.
    on_ok c.add_all.result (AreAfter c.add_all.new.routes (changes_of log ++ c.as_slice.result.now)) (Took (new-control c) history log (c.args.segment.now ∷ []) c.args.replies.now c.hear.new.replies)
    (c.add_all.ensures.routes (changes_of log) (stand c history log x)) (took c history log x)

pub returns-clause-history : goal.returns-clause-history
returns-clause-history c = λ history log x table.
    let roster = c.args.roster.now in
    let opening = c.args.opening.now in
    let heard = c.in_ok-changes.ensures.history history log x.hears in
    let v = c.args.versions.now in
    let w = c.add_all.new.self in
    let same : c.as_slice.result.now ≡ changes_of (heard.now ∷ []) = c.as_slice.ensures ∙ heard.changes_are ∙ sym (changes_one heard.now) in
    on_both c.add_all.result (AreAfter c.add_all.new.routes (changes_of log ++ c.as_slice.result.now)) (Adds roster (changes_of log) c.as_slice.result.now opening v w)
    (TookEach roster opening (new-control c) history log (c.args.segment.now ∷ []) c.args.replies.now c.hear.new.replies v w)
    (c.add_all.ensures.routes (changes_of log) (stand c history log x)) (c.add_all.ensures.versions (changes_of log) (stand c history log x) table)
    (λ routes adds. record { took = took c history log x routes; adds = subst (λ (l : List RouteChange). Adds roster (changes_of log) l opening v w) same adds })

pub returns-clause-count : goal.returns-clause-count
returns-clause-count c = λ most hold. ok_any c.add_all.result (AllHold (most + length c.args.segment.now.bytes) c.hear.new.self.sessions.sessions.items) (c.in_ok-changes.ensures.count most hold)
