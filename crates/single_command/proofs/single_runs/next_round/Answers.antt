-- A round was taken and run, or the run ends or halts.
use Rattle.std.proofs.Common.{ℕ, sym, subst}
use Rattle.worker_run.specs.Runs.{single_says}
use Rattle.file_runs.specs.RunPuts.{run_means, waits_of}
use Rattle.file_runs.specs.RunSteps.{Over, Taken}
use Rattle.file_runs.proofs.RoundLemmas.{some_so, still_open}
use Rattle.single_command.proofs.single_runs.next_round.Goals as goal

pub run_taken-requires : goal.run_taken-requires
run_taken-requires g c =
    let setup = c.requires.some.0 in
    let then = c.requires.some.1 in
    record {
      ready = still_open (single_says setup) setup (g.D.Desk.at c.args.desk.now) (g.D.Desk.at c.take_next.new.desk) c.args.outputs.now c.requires.ready
          (c.in-Ok-None.ensures.taken setup 1 then (waits_of c.args.outputs.now) c.requires.some.2 c.in-Ok-None.field-0-is).standing.ready;
      some = (
        setup,
        then,
        subst (λ (n : ℕ). Taken (run_means (single_says setup) setup) setup g.D.Desk.tells then (g.D.Desk.at c.take_next.new.desk) (waits_of c.args.outputs.now) c.take_next.new.run n) (sym c.place-place.ensures) (c.in-Ok-None.ensures.taken setup 1 then (waits_of c.args.outputs.now) c.requires.some.2 c.in-Ok-None.field-0-is),
      );
    }

pub returns-in-Err-run_taken-clause-halts : goal.returns-in-Err-run_taken-clause-halts
returns-in-Err-run_taken-clause-halts g c = λ setup then along.
    c.in-Err-run_taken.ensures.halts setup then
    (subst (λ (n : ℕ). Taken (run_means (single_says setup) setup) setup g.D.Desk.tells then (g.D.Desk.at c.take_next.new.desk) (waits_of c.args.outputs.now) c.take_next.new.run n) (sym c.place-place.ensures) (c.in-Ok-None.ensures.taken setup 1 then (waits_of c.args.outputs.now) along c.in-Ok-None.field-0-is))

pub returns-in-Ok-Some-clause-over : goal.returns-in-Ok-Some-clause-over
returns-in-Ok-Some-clause-over g c = λ setup then along.
    some_so c.in-Ok-Some.field-0 c.in-Ok-Some.end (Over (run_means (single_says setup) setup) setup g.D.Desk.tells then (g.D.Desk.at c.take_next.new.desk) (waits_of c.args.outputs.now) c.take_next.new.run) c.in-Ok-Some.field-0-is (c.in-Ok-Some.ensures.over setup 1 then (waits_of c.args.outputs.now) along)

pub take_next-requires : goal.take_next-requires
take_next-requires g c = (c.requires.some.0, 1, c.requires.some.1, waits_of c.args.outputs.now, c.requires.some.2)

pub returns-in-Err-clause-halts : goal.returns-in-Err-clause-halts
returns-in-Err-clause-halts g c = λ setup then along. c.in-Err.ensures.halts setup 1 then (waits_of c.args.outputs.now) along

pub returns-in-Ok-clause-along : goal.returns-in-Ok-clause-along
returns-in-Ok-clause-along g c = λ setup then along end.
    c.in-Ok.ensures.along setup then
    (subst (λ (n : ℕ). Taken (run_means (single_says setup) setup) setup g.D.Desk.tells then (g.D.Desk.at c.take_next.new.desk) (waits_of c.args.outputs.now) c.take_next.new.run n) (sym c.place-place.ensures) (c.in-Ok-None.ensures.taken setup 1 then (waits_of c.args.outputs.now) along c.in-Ok-None.field-0-is))

pub returns-in-Ok-Some-clause-ready : goal.returns-in-Ok-Some-clause-ready
returns-in-Ok-Some-clause-ready g c =
    let setup = c.requires.some.0 in
    let then = c.requires.some.1 in
    let over = some_so c.in-Ok-Some.field-0 c.in-Ok-Some.end (Over (run_means (single_says setup) setup) setup g.D.Desk.tells then (g.D.Desk.at c.take_next.new.desk) (waits_of c.args.outputs.now) c.take_next.new.run) c.in-Ok-Some.field-0-is
    (c.in-Ok-Some.ensures.over setup 1 then (waits_of c.args.outputs.now) c.requires.some.2) in
    still_open (single_says setup) setup (g.D.Desk.at c.args.desk.now) (g.D.Desk.at c.take_next.new.desk) c.args.outputs.now c.requires.ready over.standing.ready
