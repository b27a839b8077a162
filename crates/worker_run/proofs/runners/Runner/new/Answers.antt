-- Nothing was heard, and the table has no path.
use Rattle.std.proofs.Common.{[], refl, subst, inr}
use Rattle.sfc_config.specs.Parts.{Parts}
use Rattle.control_histories.specs.Logs.{AreWith}
use Rattle.worker_run.specs.declared.controls.Control.{Control}
use Rattle.worker_run.proofs.SoundLemmas.{begins}
use Rattle.worker_run.proofs.runners.Runner.new.Goals as goal

pub returns-clause-history : goal.returns-clause-history
returns-clause-history c =
    let control : Control = record { sessions = c.in_ok-sessions.sessions; routes = c.new-3.result; version = 0 } in
    record {
      works = refl;
      publishes = begins c.args.setup control c.empty.result (subst (λ (p : Parts). AreWith c.in_ok-sessions.sessions p.local p.peers) c.setup.view_is c.in_ok-sessions.ensures.sides)
          c.in_ok-sessions.ensures.history c.new-3.ensures.history refl c.empty.ensures;
    }

pub returns-clause-sound : goal.returns-clause-sound
returns-clause-sound c = inr ([], [], returns-clause-history c)
