use Rattle.commands.proofs.CommandLemmas.{answered}
use Rattle.walk_command.specs.WalkCommand.{IsWalk, WalkRuns, WalkWants, walk_ports}
use Rattle.walk_command.specs.WalkSteps.{walk_of}
use Rattle.walk_command.proofs.WalkAnswerLemmas.{one_walk, served, asked_is_answered}
use Rattle.walk_command.proofs.walk_calls.walk_call.Goals as goal

-- the words are a walk's
pub returns-in-Some : goal.returns-in-Some
returns-in-Some g c =
    let walk = walk_of c.in-Some.said in
    let held = g.D.Desk.held c.args.desk.now in
    let then = g.D.Desk.at c.args.desk.now in
    let now = g.D.Desk.at c.run_walk.new.desk in
    answered IsWalk walk_ports WalkRuns WalkWants c.args.words.now walk g.D.Desk.tells held then now c.run_walk.result
    (λ other. one_walk c.args.words.now walk other c.in-Some.ensures)
    (served walk g.D.Desk.tells held then now c.run_walk.result c.run_walk.ensures.runs)
    (λ wanted. asked_is_answered walk g.D.Desk.tells held then now c.run_walk.result wanted c.run_walk.ensures.runs c.run_walk.ensures.behaves)
    c.in-Some.ensures c.run_walk.ensures.runs c.run_walk.ensures.behaves
