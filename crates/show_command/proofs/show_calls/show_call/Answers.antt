use Rattle.commands.proofs.CommandLemmas.{called}
use Rattle.show_command.specs.ShowCommand.{IsShow, ShowRuns, ShowWants, show_ports}
use Rattle.show_command.specs.ShowSteps.{show_of}
use Rattle.show_command.proofs.ShowLemmas.{show_laws}
use Rattle.show_command.proofs.show_calls.show_call.Goals as goal

-- the words are those of the command
pub returns-in-Some : goal.returns-in-Some
returns-in-Some g c =
    called IsShow show_ports ShowRuns ShowWants c.args.words.now (show_of c.in-Some.said) g.D.Desk.tells (g.D.Desk.held c.args.desk.now) (g.D.Desk.at c.args.desk.now) (g.D.Desk.at c.run_show.new.desk) c.run_show.result show_laws c.in-Some.ensures c.run_show.ensures.runs c.run_show.ensures.behaves
