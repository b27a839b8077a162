-- The first segment, and then the others behind it.
use Rattle.std.proofs.Common.{◌≡◌, ◌+◌, [], ◌∷◌, ◌++◌, List, length, ap, arith, rules, sym, subst}
use Rattle.std.specs.Prelude.{OnOk}
use Rattle.std.proofs.lemmas.Grind.{common_steps}
use Rattle.control_files.specs.declared.segments.Segment.{Segment}
use Rattle.session_machine.specs.Peers.{AllHold}
use Rattle.control_histories.proofs.RoomLemmas.{hold_more}
use Rattle.worker_run.specs.Controls.{Ready, bytes_in}
use Rattle.worker_run.specs.Publications.{TookEach}
use Rattle.worker_run.proofs.ControlLemmas.{ready_first, ready_rest}
use Rattle.worker_run.proofs.EachLemmas.{each_more, each_none, each_table}
use Rattle.worker_run.proofs.RoundLemmas.{no_more}
use Rattle.worker_run.proofs.StepLemmas.{on_ok}
use Rattle.worker_run.proofs.controls.Control.+take_each.Goals as goal

pub take_each-requires : goal.take_each-requires
take_each-requires t c =
    let s = c.in-Some.segment.now in
    let rest = c.in-Some.rest.now in
    let some = c.requires.some in
    let took = c.in_ok-step_each-in-Some.ensures.took some.0 some.1 some.2 in
    let all : Ready c.args.self.now (s ∷ rest) = subst (Ready c.args.self.now) c.in-Some.ensures.cases.0 c.requires.ready in
    let many = ap length c.in-Some.ensures.cases.0 in (
      first_of (grind (arith, common_steps, many), omega (arith, many), search rules),
      (ready_rest c.args.self.now c.step_each.new.self s rest c.in_ok-step_each-in-Some.ensures.sides c.in_ok-step_each-in-Some.ensures.count all, (some.0 ++ s ∷ [], some.1 ++ took.now, took.follows)),
    )

pub step_each-requires-clause-ready : goal.step_each-requires-clause-ready
step_each-requires-clause-ready t c = ready_first c.args.self.now c.in-Some.segment.now c.in-Some.rest.now (subst (Ready c.args.self.now) c.in-Some.ensures.cases.0 c.requires.ready)

pub returns-in-None-clause-history : goal.returns-in-None-clause-history
returns-in-None-clause-history t c = λ history log x table.
    subst (λ (ss : List Segment). TookEach c.args.roster.now c.args.opening.now c.args.self.now history log ss c.args.replies.now c.args.replies.now c.args.versions.now c.args.versions.now) (sym (no_more c.args.segments.now c.in-None.ensures.cases))
    (each_none c.args.roster.now c.args.opening.now c.args.self.now history log c.args.replies.now c.args.versions.now x table)

pub returns-in_ok-step_each-in-Some-clause-history : goal.returns-in_ok-step_each-in-Some-clause-history
returns-in_ok-step_each-in-Some-clause-history t c = λ history log x table.
    let roster = c.args.roster.now in
    let opening = c.args.opening.now in
    let s = c.in-Some.segment.now in
    let rest = c.in-Some.rest.now in
    let first = c.args.replies.now in
    let mid = c.step_each.new.replies in
    let last = c.take_each.new.replies in
    let control = c.step_each.new.self in
    let new = c.take_each.new.self in
    let u = c.args.versions.now in
    let v = c.step_each.new.versions in
    let w = c.take_each.new.versions in
    let took = c.in_ok-step_each-in-Some.ensures.history history log x table in
    let now = took.took.now in
    subst (λ (ss : List Segment). OnOk c.take_each.result (TookEach roster opening new history log ss first last u w)) (sym c.in-Some.ensures.cases.0)
    (on_ok c.take_each.result (TookEach roster opening new (history ++ s ∷ []) (log ++ now) rest mid last v w) (TookEach roster opening new history log (s ∷ rest) first last u w)
    (c.take_each.ensures.history (history ++ s ∷ []) (log ++ now) took.took.follows (each_table roster opening control history log (s ∷ []) first mid u v took))
    (λ more. each_more roster opening control new history log s rest first mid last u v w took more))

pub returns-in_ok-step_each-in-Some-clause-count : goal.returns-in_ok-step_each-in-Some-clause-count
returns-in_ok-step_each-in-Some-clause-count t c = λ most hold.
    let s = c.in-Some.segment.now in
    let rest = c.in-Some.rest.now in
    let list = c.take_each.new.self.sessions.sessions.items in
    let bytes : bytes_in c.args.segments.now ≡ length s.bytes + bytes_in rest = ap bytes_in c.in-Some.ensures.cases.0 in
    on_ok c.take_each.result (AllHold ((most + length s.bytes) + bytes_in rest) list) (AllHold (most + bytes_in c.args.segments.now) list)
    (c.take_each.ensures.count (most + length s.bytes) (c.in_ok-step_each-in-Some.ensures.count most hold))
    (λ few. hold_more list ((most + length s.bytes) + bytes_in rest) (most + bytes_in c.args.segments.now) few (omega (arith, bytes)))
