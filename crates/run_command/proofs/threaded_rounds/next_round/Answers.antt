-- A round was taken and run, or the run ends or halts.
use Rattle.std.proofs.Common.{ℕ, sym, subst}
use Rattle.worker_run.specs.Runs.{run_says}
use Rattle.file_runs.specs.RunPuts.{run_means, waits_of}
use Rattle.file_runs.specs.RunSteps.{Over}
use Rattle.file_runs.proofs.RoundLemmas.{some_so, still_open}
use Rattle.run_command.specs.ThreadedSteps.{TakenOn}
use Rattle.run_command.proofs.ThreadedLemmas.{taken_on}
use Rattle.run_command.proofs.threaded_rounds.next_round.Goals as goal

pub take_next-requires : goal.take_next-requires
take_next-requires g c = (c.requires.0, c.requires.1, c.requires.2, waits_of c.args.outputs.now, c.requires.3.along)

pub run_taken-requires-after_bounds : goal.run_taken-requires-after_bounds
run_taken-requires-after_bounds g c κs within =
    let setup = c.requires.0 in
    let workers = c.requires.1 in
    let then = c.requires.2 in
    let on = c.requires.3 in (
      setup,
      workers,
      then,
      (subst (λ (n : ℕ). TakenOn workers setup g.D.Desk.tells then (g.D.Desk.at c.take_next.new.desk) c.args.outputs.now c.take_next.new.run n) (sym c.place-place.ensures)
          (taken_on workers setup g.D.Desk.tells then (g.D.Desk.at c.args.desk.now) (g.D.Desk.at c.take_next.new.desk) c.args.outputs.now c.args.run.now c.take_next.new.run c.args.run.now.inputs.place on c.take_next.ensures.runner (c.in-Ok-None.ensures.taken setup workers then (waits_of c.args.outputs.now) on.along c.in-Ok-None.field-0-is))),
    )

pub returns-in-Err-run_taken-clause-halts : goal.returns-in-Err-run_taken-clause-halts
returns-in-Err-run_taken-clause-halts g c = λ setup workers then on.
    c.in-Err-run_taken.ensures.halts setup workers then
    (subst (λ (n : ℕ). TakenOn workers setup g.D.Desk.tells then (g.D.Desk.at c.take_next.new.desk) c.args.outputs.now c.take_next.new.run n) (sym c.place-place.ensures)
    (taken_on workers setup g.D.Desk.tells then (g.D.Desk.at c.args.desk.now) (g.D.Desk.at c.take_next.new.desk) c.args.outputs.now c.args.run.now c.take_next.new.run c.args.run.now.inputs.place on c.take_next.ensures.runner (c.in-Ok-None.ensures.taken setup workers then (waits_of c.args.outputs.now) on.along c.in-Ok-None.field-0-is)))

pub returns-in-Ok-clause-along : goal.returns-in-Ok-clause-along
returns-in-Ok-clause-along g c = λ setup workers then on end.
    c.in-Ok.ensures.along setup workers then
    (subst (λ (n : ℕ). TakenOn workers setup g.D.Desk.tells then (g.D.Desk.at c.take_next.new.desk) c.args.outputs.now c.take_next.new.run n) (sym c.place-place.ensures)
    (taken_on workers setup g.D.Desk.tells then (g.D.Desk.at c.args.desk.now) (g.D.Desk.at c.take_next.new.desk) c.args.outputs.now c.args.run.now c.take_next.new.run c.args.run.now.inputs.place on c.take_next.ensures.runner (c.in-Ok-None.ensures.taken setup workers then (waits_of c.args.outputs.now) on.along c.in-Ok-None.field-0-is)))

pub returns-in-Ok-Some-clause-over : goal.returns-in-Ok-Some-clause-over
returns-in-Ok-Some-clause-over g c = λ setup workers then on.
    let over = some_so c.in-Ok-Some.field-0 c.in-Ok-Some.end (Over (run_means (run_says setup workers) setup) setup g.D.Desk.tells then (g.D.Desk.at c.take_next.new.desk) (waits_of c.args.outputs.now) c.take_next.new.run) c.in-Ok-Some.field-0-is
    (c.in-Ok-Some.ensures.over setup workers then (waits_of c.args.outputs.now) on.along) in
    record { over = over; ready = still_open (run_says setup workers) setup (g.D.Desk.at c.args.desk.now) (g.D.Desk.at c.take_next.new.desk) c.args.outputs.now on.ready over.standing.ready }

pub returns-in-Err-clause-halts : goal.returns-in-Err-clause-halts
returns-in-Err-clause-halts g c = λ setup workers then on. c.in-Err.ensures.halts setup workers then (waits_of c.args.outputs.now) on.along
