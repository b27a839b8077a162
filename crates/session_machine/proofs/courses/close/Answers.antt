-- The session ends without a message.
use Rattle.std.proofs.Common.{◌≡◌, [], refl, ap, ◌∙◌}
use Rattle.session_machine.specs.declared.states.State.TheVariants as states
use Rattle.session_machine.specs.declared.cores.Core.{Core}
use Rattle.session_machine.specs.Outcomes.{ends}
use Rattle.session_machine.specs.Events.{core_of, given}
use Rattle.session_machine.proofs.CourseLemmas.{after_new}
use Rattle.session_machine.proofs.courses.close.Goals as goal

pub returns-clause-step : goal.returns-clause-step
returns-clause-step c = λ m a.
    let ended : c.end.new.core ≡ ends c.args.side.now.peer (core_of m) = c.in_ok-end.ensures ∙ ap (λ (k : Core). ends c.args.side.now.peer k) a.core in
    record {
      end = record { state = states.Idle; last = m.last; sent = m.sent; stream = []; nlris = [] };
      steps = record { effects_are = c.hand_out-effects.ensures.effects ∙ ap (λ (k : Core). given k) ended; new_is = refl };
      agrees = record {
        core = c.hand_out-effects.ensures.core ∙ ap (λ (k : Core). record k { bytes = []; changes = [] }) ended;
        last = a.last;
        sent = a.sent;
        feed = after_new c.new.result c.new.ensures.value;
      };
    }
