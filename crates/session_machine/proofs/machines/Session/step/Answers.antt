-- The run goes on by the step.
use Rattle.session_machine.specs.Events.{beginning, happening}
use Rattle.session_machine.proofs.FitLemmas.{of_step}
use Rattle.session_machine.proofs.HistoryLemmas.{one_more}
use Rattle.session_machine.proofs.machines.Session.step.Goals as goal

pub returns-in-Ok-clause-history : goal.returns-in-Ok-clause-history
returns-in-Ok-clause-history c = λ events given s.
    let g = c.in-Ok.ensures.step s.end s.agrees in
    record {
      end = g.end;
      runs = one_more c.args.self.now.side beginning s.end g.end events given (happening c.args.event) c.in-Ok.effects s.runs g.steps;
      agrees = g.agrees;
      works = c.if-self.false;
    }

pub returns-in-Ok-clause-changes : goal.returns-in-Ok-clause-changes
returns-in-Ok-clause-changes c = λ events given s.
    let g = c.in-Ok.ensures.step s.end s.agrees in
    of_step c.args.self.now.side s.end (happening c.args.event) c.in-Ok.effects g.end g.steps
