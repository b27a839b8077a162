-- The sessions stand for one event more, which is what the segment says.
use Rattle.std.proofs.Common.{◌+◌, ◌≤◌, [], ◌∷◌, ◌++◌, arith, length, refl, subst}
use Rattle.control_files.specs.Steps.{segment_of}
use Rattle.session_machine.specs.Events.{Happening}
use Rattle.session_machine.specs.Peers.{AllHold, size_of}
use Rattle.session_machine.specs.Groups.{StandAll, entry}
use Rattle.control_histories.specs.Happenings.{happens}
use Rattle.control_histories.proofs.EntryLemmas.{one_more}
use Rattle.control_histories.proofs.RoomLemmas.{brings_few, hold_more}
use Rattle.control_histories.proofs.steps.step_segment.Goals as goal

pub returns-clause-history : goal.returns-clause-history
returns-clause-history c = λ segments log took.
    let s = segment_of c.args.head c.args.bytes.now in
    let e = entry c.args.head.peer (happens s) c.in_ok-effects.effects in
    record {
      stands = subst (λ (h : Happening). StandAll c.step.new.self (log ++ entry c.args.head.peer h c.in_ok-effects.effects ∷ [])) c.event_of.ensures (c.in_ok-effects.ensures.history log took.stands);
      in_order = one_more segments log s e took.in_order refl;
    }

pub returns-clause-changes : goal.returns-clause-changes
returns-clause-changes c = λ segments log took. c.in_ok-effects.ensures.changes log took.stands

pub returns-clause-count : goal.returns-clause-count
returns-clause-count c = λ most hold.
    let s = segment_of c.args.head c.args.bytes.now in
    let list = c.step.new.self.sessions.items in
    let counted : AllHold (most + size_of (happens s)) list = subst (λ (h : Happening). AllHold (most + size_of h) list) c.event_of.ensures (c.in_ok-effects.ensures.count most hold) in
    let few : size_of (happens s) ≤ length c.args.bytes.now = brings_few s in
    hold_more list (most + size_of (happens s)) (most + length c.args.bytes.now) counted (omega (arith, few))
