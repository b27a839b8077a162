-- The first segment, and then the others behind it.
use Rattle.std.proofs.Common.{◌≡◌, ◌+◌, [], ◌∷◌, ◌++◌, List, length, ap, arith, rules, sym, subst}
use Rattle.std.specs.Prelude.{OnOk}
use Rattle.std.proofs.lemmas.Grind.{common_steps}
use Rattle.control_files.specs.declared.segments.Segment.{Segment}
use Rattle.session_machine.specs.Peers.{AllHold}
use Rattle.control_histories.proofs.RoomLemmas.{hold_more}
use Rattle.worker_run.specs.Controls.{Ready, Took, bytes_in}
use Rattle.worker_run.proofs.ControlLemmas.{ready_rest, took_more}
use Rattle.worker_run.proofs.StepLemmas.{on_ok}
use Rattle.worker_run.proofs.controls.Control.+take.Goals as goal

pub take-requires : goal.take-requires
take-requires t c =
    let s = c.in-Some.segment.now in
    let rest = c.in-Some.rest.now in
    let some = c.requires.some in
    let took = c.in_ok-step-in-Some.ensures.history some.0 some.1 some.2 in
    let all : Ready c.args.self.now (s ∷ rest) = subst (Ready c.args.self.now) c.in-Some.ensures.cases.0 c.requires.ready in
    let many = ap length c.in-Some.ensures.cases.0 in (
      first_of (grind (arith, common_steps, many), omega (arith, many), search rules),
      (ready_rest c.args.self.now c.step.new.self s rest c.in_ok-step-in-Some.ensures.sides c.in_ok-step-in-Some.ensures.count all, (some.0 ++ s ∷ [], some.1 ++ took.now, took.follows)),
    )

pub returns-in_ok-step-in-Some-clause-history : goal.returns-in_ok-step-in-Some-clause-history
returns-in_ok-step-in-Some-clause-history t c = λ history log x.
    let s = c.in-Some.segment.now in
    let rest = c.in-Some.rest.now in
    let first = c.args.replies.now in
    let mid = c.step.new.replies in
    let last = c.take.new.replies in
    let took = c.in_ok-step-in-Some.ensures.history history log x in
    subst (λ (ss : List Segment). OnOk c.take.result (Took c.take.new.self history log ss first last)) (sym c.in-Some.ensures.cases.0)
    (on_ok c.take.result (Took c.take.new.self (history ++ s ∷ []) (log ++ took.now) rest mid last) (Took c.take.new.self history log (s ∷ rest) first last)
    (c.take.ensures.history (history ++ s ∷ []) (log ++ took.now) took.follows)
    (λ more. took_more c.take.new.self history log s rest first mid last c.step.new.self took more))

pub returns-in_ok-step-in-Some-clause-count : goal.returns-in_ok-step-in-Some-clause-count
returns-in_ok-step-in-Some-clause-count t c = λ most hold.
    let s = c.in-Some.segment.now in
    let rest = c.in-Some.rest.now in
    let list = c.take.new.self.sessions.sessions.items in
    let bytes : bytes_in c.args.segments.now ≡ length s.bytes + bytes_in rest = ap bytes_in c.in-Some.ensures.cases.0 in
    on_ok c.take.result (AllHold ((most + length s.bytes) + bytes_in rest) list) (AllHold (most + bytes_in c.args.segments.now) list)
    (c.take.ensures.count (most + length s.bytes) (c.in_ok-step-in-Some.ensures.count most hold))
    (λ few. hold_more list ((most + length s.bytes) + bytes_in rest) (most + bytes_in c.args.segments.now) few (omega (arith, bytes)))
