use Rattle.commands.proofs.CommandLemmas.{called}
use Rattle.generate_command.specs.GenerateCommand.{IsGenerate, GenerateRuns, GenerateWants, generate_ports}
use Rattle.generate_command.specs.GenerateSteps.{generate_of}
use Rattle.generate_command.proofs.GenerateLemmas.{generate_laws}
use Rattle.generate_command.proofs.generate_calls.generate_call.Goals as goal

-- the words are those of the command
pub returns-in-Some : goal.returns-in-Some
returns-in-Some g c =
    called IsGenerate generate_ports GenerateRuns GenerateWants c.args.words.now (generate_of c.in-Some.said) g.D.Desk.tells (g.D.Desk.held c.args.desk.now) (g.D.Desk.at c.args.desk.now) (g.D.Desk.at c.run_generate.new.desk) c.run_generate.result generate_laws c.in-Some.ensures c.run_generate.ensures.runs c.run_generate.ensures.behaves
