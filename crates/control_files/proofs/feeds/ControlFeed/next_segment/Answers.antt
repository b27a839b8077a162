-- The step's answer, on the rest.
use Rattle.std.proofs.Common.{◌≡◌, ◌≤◌, ◌+◌, length, take, drop, Some, Ok, Err, refl}
use Rattle.control_files.specs.Steps.{BeginsWith}
use Rattle.control_files.specs.Refusals.{refusal_of}
use Rattle.control_files.proofs.StreamLemmas.{gives_segment, next_exact, next_stands}
use Rattle.control_files.proofs.feeds.ControlFeed.next_segment.Goals as goal

pub returns-in-Whole-clause-next : goal.returns-in-Whole-clause-next
returns-in-Whole-clause-next c =
    let there : 23 + c.in-Whole.head.length ≤ length c.self.inside.buffer.rest = rw c.rest.ensures at c.in-Whole.ensures.0 in
    let begins : BeginsWith c.self.inside.peers c.self.inside.mark c.self.inside.buffer.rest c.in-Whole.head (take c.in-Whole.head.length (drop 23 c.self.inside.buffer.rest)) (drop (23 + c.in-Whole.head.length) c.self.inside.buffer.rest) = rw (c.as_slice.ensures, c.rest.ensures) at c.in-Whole.ensures.1 in
    gives_segment c.args.self.now c.pass.new.self c.in-Whole.head (rw (← c.self.view_is) there) (rw (← c.self.view_is) begins) c.pass.ensures.lent c.pass.ensures.rest c.pass.ensures.place c.pass.ensures.moment
    c.pass.ensures.position c.pass.ensures.peers c.pass.ensures.room c.pass.ensures.failed

pub returns-in-Whole-clause-exact : goal.returns-in-Whole-clause-exact
returns-in-Whole-clause-exact c = next_exact c.args.self.now c.pass.new.self (Ok (Some c.in-Whole.head)) (returns-in-Whole-clause-next c)

pub returns-in-Whole-clause-history : goal.returns-in-Whole-clause-history
returns-in-Whole-clause-history c = λ taken given stands.
    next_stands c.args.self.now c.pass.new.self (Ok (Some c.in-Whole.head)) taken given (returns-in-Whole-clause-next c) stands

pub returns-in-Refused-clause-exact : goal.returns-in-Refused-clause-exact
returns-in-Refused-clause-exact c =
    let here : refusal_of c.self.inside.peers c.self.inside.mark c.self.inside.place c.self.inside.buffer.rest ≡ Some c.in-Refused.refusal = rw (c.as_slice.ensures, c.rest.ensures) at c.in-Refused.ensures in
    next_exact c.args.self.now c.args.self.now (Err c.in-Refused.refusal) (rw (← c.self.view_is) (here, refl))
