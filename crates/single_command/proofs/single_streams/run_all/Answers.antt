-- The run ends or halts, and what waits is written.
use Rattle.std.proofs.Common.{sym, subst}
use Rattle.commands.specs.declared.statuses.Status.{Status}
use Rattle.worker_run.specs.Runs.{single_says}
use Rattle.file_runs.specs.RunPuts.{run_means, waits_of}
use Rattle.file_runs.specs.RunSteps.{StreamSays}
use Rattle.file_runs.proofs.RoundLemmas.{three_finished}
use Rattle.file_runs.proofs.StreamLemmas.{end_halts, end_says}
use Rattle.single_command.proofs.single_streams.run_all.Goals as goal

pub returns-in-Err : goal.returns-in-Err
returns-in-Err g c = λ setup then along.
    subst (λ (s : Status). StreamSays (run_means (single_says setup) setup) setup g.D.Desk.tells then (g.D.Desk.at c.run_rounds.new.desk) s) (sym c.status_of_halt.ensures) (c.in-Err.ensures.halts setup then along)

pub returns-in-Ok-finish : goal.returns-in-Ok-finish
returns-in-Ok-finish g c = λ setup then along.
    subst (λ (s : Status). StreamSays (run_means (single_says setup) setup) setup g.D.Desk.tells then (g.D.Desk.at c.finish.new.desk) s) (sym c.status_of_end.ensures)
    (end_says (run_means (single_says setup) setup) setup g.D.Desk.tells (g.D.Desk.held c.run_rounds.new.desk) (g.D.Desk.held c.finish.new.desk) then (g.D.Desk.at c.run_rounds.new.desk) (g.D.Desk.at c.finish.new.desk)
    (waits_of c.run_rounds.new.outputs) c.run_rounds.new.run c.in-Ok.end (c.in-Ok.ensures.over setup then along)
    (three_finished (single_says setup) setup g.D.Desk.tells (g.D.Desk.at c.run_rounds.new.desk) (g.D.Desk.at c.finish.new.desk) (g.D.Desk.held c.run_rounds.new.desk) (g.D.Desk.held c.finish.new.desk) c.run_rounds.new.outputs _ c.in-Ok-finish.ensures))

pub returns-in-Err-finish : goal.returns-in-Err-finish
returns-in-Err-finish g c = λ setup then along.
    subst (λ (s : Status). StreamSays (run_means (single_says setup) setup) setup g.D.Desk.tells then (g.D.Desk.at c.finish.new.desk) s) (sym c.status_of_halt-in-Err-finish.ensures)
    (end_halts (run_means (single_says setup) setup) setup g.D.Desk.tells (g.D.Desk.held c.run_rounds.new.desk) (g.D.Desk.held c.finish.new.desk) then (g.D.Desk.at c.run_rounds.new.desk) (g.D.Desk.at c.finish.new.desk)
    (waits_of c.run_rounds.new.outputs) c.run_rounds.new.run c.in-Ok.end c.in-Err-finish.halt (c.in-Ok.ensures.over setup then along)
    (three_finished (single_says setup) setup g.D.Desk.tells (g.D.Desk.at c.run_rounds.new.desk) (g.D.Desk.at c.finish.new.desk) (g.D.Desk.held c.run_rounds.new.desk) (g.D.Desk.held c.finish.new.desk) c.run_rounds.new.outputs _ c.in-Err-finish.ensures))
