use Rattle.commands.proofs.CommandLemmas.{answered}
use Rattle.worker_run.specs.Runs.{IsSingle}
use Rattle.commands.specs.Outputs.{TookFrontsOfEach}
use Rattle.file_runs.specs.FileRuns.{run_ports}
use Rattle.file_runs.specs.RunSteps.{files_of}
use Rattle.file_runs.proofs.CallLemmas.{asked_is_answered, served}
use Rattle.single_command.specs.SingleCommand.{IsSingleWords, SingleRuns, SingleWants}
use Rattle.single_command.proofs.SingleLemmas.{one_files}
use Rattle.single_command.proofs.single_calls.single_call.Goals as goal

-- the words are those of the command
pub returns-in-Some : goal.returns-in-Some
returns-in-Some g c =
    let files = files_of c.in-Some.said in
    let held = g.D.Desk.held c.args.desk.now in
    let then = g.D.Desk.at c.args.desk.now in
    let now = g.D.Desk.at c.run_single.new.desk in
    answered IsSingleWords run_ports SingleRuns SingleWants c.args.words.now files g.D.Desk.tells held then now c.run_single.result
    (λ other. one_files c.args.words.now files other c.in-Some.ensures)
    (served IsSingle TookFrontsOfEach files g.D.Desk.tells held then now c.run_single.result c.run_single.ensures.runs)
    (λ wanted. asked_is_answered IsSingle TookFrontsOfEach files g.D.Desk.tells held then now c.run_single.result wanted c.run_single.ensures.runs c.run_single.ensures.behaves)
    c.in-Some.ensures c.run_single.ensures.runs c.run_single.ensures.behaves
