-- the words are those of the command
use Rattle.commands.proofs.CommandLemmas.{answered}
use Rattle.file_runs.specs.FileRuns.{TookFrontsOfSome}
use Rattle.file_runs.proofs.CallLemmas.{asked_is_answered, served}
use Rattle.run_command.specs.RunCommand.{IsRunOn, IsThreadedRun, ThreadedRuns, ThreadedWants, threaded_ports}
use Rattle.run_command.specs.ThreadedSteps.{threaded_of}
use Rattle.run_command.proofs.ThreadedLemmas.{one_run}
use Rattle.run_command.proofs.run_calls.run_call.Goals as goal

pub run_threaded-requires-clause-workers : goal.run_threaded-requires-clause-workers
run_threaded-requires-clause-workers g c κs within = (c.in-Some.ensures.some, c.in-Some.ensures.most)

pub returns-in-Some : goal.returns-in-Some
returns-in-Some g c =
    let said = threaded_of c.in-Some.said in
    let held = g.D.Desk.held c.args.desk.now in
    let then = g.D.Desk.at c.args.desk.now in
    let now = g.D.Desk.at c.run_threaded.new.desk in
    answered IsThreadedRun threaded_ports ThreadedRuns ThreadedWants c.args.words.now said g.D.Desk.tells held then now c.run_threaded.result
    (λ other. one_run c.args.words.now said other c.in-Some.ensures)
    (served (IsRunOn said.workers) TookFrontsOfSome said.files g.D.Desk.tells held then now c.run_threaded.result c.run_threaded.ensures.runs)
    (λ wanted. asked_is_answered (IsRunOn said.workers) TookFrontsOfSome said.files g.D.Desk.tells held then now c.run_threaded.result wanted c.run_threaded.ensures.runs c.run_threaded.ensures.behaves)
    c.in-Some.ensures c.run_threaded.ensures.runs c.run_threaded.ensures.behaves
