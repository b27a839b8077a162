-- The session ends, and its bytes are not used.
use Rattle.std.proofs.Common.{◌≡◌, [], ap, sym, subst, ◌∙◌}
use Rattle.session_machine.specs.declared.states.State.{State}
use Rattle.session_machine.specs.declared.cores.Core.{Core}
use Rattle.session_machine.specs.Outcomes.{refuses}
use Rattle.session_machine.specs.Events.{core_of, given, after}
use Rattle.session_machine.proofs.CourseLemmas.{DrainedIn, leaves_agree}
use Rattle.session_machine.proofs.courses.expire.Goals as goal

pub returns-clause-step : goal.returns-clause-step
returns-clause-step c = λ m a expired.
    let ended : c.refuse.new.core ≡ refuses c.args.side.now.peer (core_of m) 4 0 [] = c.in_ok-refuse.ensures ∙ ap (λ (k : Core). refuses c.args.side.now.peer k 4 0 []) a.core in
    let drained : DrainedIn c.refuse.new.core.state c.args.course.now.feed [] = subst (λ (s : State). DrainedIn s c.args.course.now.feed []) (sym (ap (λ (k : Core). k.state) ended)) tt in
    record {
      end = after m c.args.moment [] [] c.refuse.new.core;
      expires = record { expired = expired; effects_are = c.leave.ensures.effects ∙ ap (λ (k : Core). given k) ended; new_is = ap (λ (k : Core). after m c.args.moment [] [] k) ended };
      agrees = leaves_agree (record { core = c.refuse.new.core; last = c.args.course.now.last; sent = c.args.course.now.sent; feed = c.args.course.now.feed }) c.leave.new.course m c.args.moment [] []
          (record { core = c.leave.ensures.core; last = c.leave.ensures.last; sent = c.leave.ensures.sent; feed = c.leave.ensures.feed }) a.last a.sent drained;
    }
