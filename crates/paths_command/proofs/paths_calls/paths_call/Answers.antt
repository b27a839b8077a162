use Rattle.commands.proofs.CommandLemmas.{answered}
use Rattle.paths_command.specs.PathsCommand.{IsPaths, PathsRuns, PathsWants, paths_ports}
use Rattle.paths_command.specs.PathsSteps.{paths_of}
use Rattle.paths_command.proofs.PathsLemmas.{one_paths, served, asked_is_answered}
use Rattle.paths_command.proofs.paths_calls.paths_call.Goals as goal

-- the words are those of the command
pub returns-in-Some : goal.returns-in-Some
returns-in-Some g c =
    let paths = paths_of c.in-Some.said in
    let held = g.D.Desk.held c.args.desk.now in
    let then = g.D.Desk.at c.args.desk.now in
    let now = g.D.Desk.at c.run_paths.new.desk in
    answered IsPaths paths_ports PathsRuns PathsWants c.args.words.now paths g.D.Desk.tells held then now c.run_paths.result
    (λ other. one_paths c.args.words.now paths other c.in-Some.ensures)
    (served paths g.D.Desk.tells held then now c.run_paths.result c.run_paths.ensures.runs)
    (λ wanted. asked_is_answered paths g.D.Desk.tells held then now c.run_paths.result wanted c.run_paths.ensures.runs c.run_paths.ensures.behaves)
    c.in-Some.ensures c.run_paths.ensures.runs c.run_paths.ensures.behaves
