use Rattle.commands.proofs.CommandLemmas.{called}
use Rattle.announce_command.specs.AnnounceCommand.{IsAnnounce, AnnounceRuns, AnnounceWants, announce_ports}
use Rattle.announce_command.specs.AnnounceSteps.{announce_of}
use Rattle.announce_command.proofs.AnnounceLaws.{announce_laws}
use Rattle.announce_command.proofs.announce_calls.announce_call.Goals as goal

-- the words are those of the command
pub returns-in-Some : goal.returns-in-Some
returns-in-Some g c =
    called IsAnnounce announce_ports AnnounceRuns AnnounceWants c.args.words.now (announce_of c.in-Some.said) g.D.Desk.tells (g.D.Desk.held c.args.desk.now) (g.D.Desk.at c.args.desk.now) (g.D.Desk.at c.run_announce.new.desk) c.run_announce.result announce_laws c.in-Some.ensures c.run_announce.ensures.runs c.run_announce.ensures.behaves
