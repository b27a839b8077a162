-- The run ends or halts from where it stands.
use Rattle.worker_run.specs.Runs.{single_says}
use Rattle.file_runs.specs.RunPuts.{run_means, waits_of}
use Rattle.file_runs.specs.RunSteps.{Over}
use Rattle.file_runs.proofs.RoundLemmas.{some_so}
use Rattle.single_command.proofs.single_runs.run_rounds.Goals as goal

pub returns-in-Ok-Some-clause-over : goal.returns-in-Ok-Some-clause-over
returns-in-Ok-Some-clause-over g c = λ setup then along.
    some_so c.in-Ok-Some.field-0 c.in-Ok-Some.end (Over (run_means (single_says setup) setup) setup g.D.Desk.tells then (g.D.Desk.at c.next_round.new.desk) (waits_of c.next_round.new.outputs) c.next_round.new.run) c.in-Ok-Some.field-0-is (c.in-Ok-Some.ensures.over setup then (c.rounds.invariant.along setup then along))

pub returns-in-Err-clause-halts : goal.returns-in-Err-clause-halts
returns-in-Err-clause-halts g c = λ setup then along. c.in-Err.ensures.halts setup then (c.rounds.invariant.along setup then along)

pub next_round-requires-clause-some : goal.next_round-requires-clause-some
next_round-requires-clause-some g c = (c.requires.some.0, c.requires.some.1, c.rounds.invariant.along c.requires.some.0 c.requires.some.1 c.requires.some.2)

pub rounds-preserved : goal.rounds-preserved
rounds-preserved g c = record {
  ready = c.in-Ok-None.ensures.ready;
  along = λ setup then along. c.in-Ok-None.ensures.along setup then (c.rounds.invariant.along setup then along) c.in-Ok-None.field-0-is;
}
