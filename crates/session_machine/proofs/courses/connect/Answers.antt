-- What was given and sent is the end of the session that was there and the OPEN.
use Rattle.std.proofs.Common.{◌≡◌, List, ℕ, [], ◌++◌, refl, ap, ◌∙◌}
use Rattle.bgp_messages.specs.Messages.{spelling}
use Rattle.bgp_update.specs.declared.routes.Nlri.{Nlri}
use Rattle.sfc_routes.specs.declared.route_changes.RouteChange.{RouteChange}
use Rattle.session_machine.specs.declared.states.State.TheVariants as states
use Rattle.session_machine.specs.declared.cores.Core.{Core}
use Rattle.session_machine.specs.declared.events.Effects.{Effects}
use Rattle.session_machine.specs.Spoken.{open_message}
use Rattle.session_machine.specs.Outcomes.{with_end}
use Rattle.session_machine.proofs.CourseLemmas.{after_new}
use Rattle.session_machine.proofs.courses.connect.Goals as goal

pub returns-clause-step : goal.returns-clause-step
returns-clause-step c = λ m a.
    let ended : c.add_end.new.changes ≡ with_end c.args.side.now.peer m.state [] = c.in_ok-add_end.ensures ∙ ap (λ (k : Core). with_end c.args.side.now.peer k.state k.changes) a.core in
    let said : c.say_open.new.out ≡ spelling (open_message c.args.side.now.local) = c.in_ok-say_open.ensures ∙ ap (λ (k : Core). k.bytes ++ spelling (open_message c.args.side.now.local)) a.core in
    let made : List ℕ → List RouteChange → Effects = λ b ch. record { bytes = b; changes = ch } in
    let opened : List Nlri → List ℕ → List RouteChange → Core = λ n b ch. record { state = states.OpenSent; nlris = n; bytes = b; changes = ch } in
    record {
      end = record { state = states.OpenSent; last = c.args.moment; sent = c.args.moment; stream = []; nlris = [] };
      steps = record {
        effects_are = c.hand_out-effects.ensures.effects ∙ ap (λ (b : List ℕ). made b c.add_end.new.changes) said ∙ ap (λ (ch : List RouteChange). made (spelling (open_message c.args.side.now.local)) ch) ended;
        new_is = refl;
      };
      agrees = record {
        core = ap (λ (n : List Nlri). opened n c.hand_out-effects.new.core.bytes c.hand_out-effects.new.core.changes) c.clear.ensures
            ∙ ap (λ (b : List ℕ). opened [] b c.hand_out-effects.new.core.changes) (ap (λ (k : Core). k.bytes) c.hand_out-effects.ensures.core)
            ∙ ap (λ (ch : List RouteChange). opened [] [] ch) (ap (λ (k : Core). k.changes) c.hand_out-effects.ensures.core);
        last = refl;
        sent = refl;
        feed = after_new c.new.result c.new.ensures.value;
      };
    }
