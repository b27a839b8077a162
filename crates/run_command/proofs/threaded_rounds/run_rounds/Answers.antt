-- The run ends or halts from where it stands.
use Rattle.file_runs.proofs.RoundLemmas.{some_so}
use Rattle.run_command.specs.ThreadedSteps.{OverOn}
use Rattle.run_command.proofs.threaded_rounds.run_rounds.Goals as goal

pub next_round-requires-after_bounds : goal.next_round-requires-after_bounds
next_round-requires-after_bounds g c κs within = (c.requires.0, c.requires.1, c.requires.2, c.rounds.invariant c.requires.0 c.requires.1 c.requires.2 c.requires.3)

pub rounds-preserved : goal.rounds-preserved
rounds-preserved g c = λ setup workers then on. c.in-Ok-None.ensures.along setup workers then (c.rounds.invariant setup workers then on) c.in-Ok-None.field-0-is

pub returns-in-Ok-Some-clause-over : goal.returns-in-Ok-Some-clause-over
returns-in-Ok-Some-clause-over g c = λ setup workers then on.
    some_so c.in-Ok-Some.field-0 c.in-Ok-Some.end (OverOn workers setup g.D.Desk.tells then (g.D.Desk.at c.next_round.new.desk) c.next_round.new.outputs c.next_round.new.run) c.in-Ok-Some.field-0-is (c.in-Ok-Some.ensures.over setup workers then (c.rounds.invariant setup workers then on))

pub returns-in-Err-clause-halts : goal.returns-in-Err-clause-halts
returns-in-Err-clause-halts g c = λ setup workers then on. c.in-Err.ensures.halts setup workers then (c.rounds.invariant setup workers then on)
