use Rattle.sfc_desk.specs.declared.ports.Port.TheVariants.{Source}
use Rattle.commands.proofs.CommandLemmas.{answered}
use Rattle.frame_streams.proofs.StreamLemmas.{asked_is_answered, served}
use Rattle.from_pcapng_command.specs.FromPcapngCommand.{IsFromPcapng, FromPcapngRuns, FromPcapngWants, FromPcapngWrites, from_pcapng_ports}
use Rattle.from_pcapng_command.specs.FromPcapngSteps.{from_pcapng_of}
use Rattle.from_pcapng_command.proofs.OneCaptureLemmas.{answers_once}
use Rattle.from_pcapng_command.proofs.RunLemmas.{one_said, one_source}
use Rattle.from_pcapng_command.proofs.from_pcapng_calls.from_pcapng_call.Goals as goal

-- the words are those of the command
pub returns-in-Some : goal.returns-in-Some
returns-in-Some g c =
    let said = from_pcapng_of c.in-Some.said in
    let held = g.D.Desk.held c.args.desk.now in
    let then = g.D.Desk.at c.args.desk.now in
    let now = g.D.Desk.at c.run_from_pcapng.new.desk in
    answered IsFromPcapng from_pcapng_ports FromPcapngRuns FromPcapngWants c.args.words.now said g.D.Desk.tells held then now c.run_from_pcapng.result
    (λ other. one_said c.args.words.now said other c.in-Some.ensures)
    (served Source (from_pcapng_ports said) (FromPcapngWrites said.interface) (held said.source) g.D.Desk.tells then now c.run_from_pcapng.result c.run_from_pcapng.ensures.runs)
    (λ wanted. asked_is_answered Source said.source (from_pcapng_ports said) (FromPcapngWrites said.interface) g.D.Desk.tells held then now c.run_from_pcapng.result wanted (answers_once said.interface)
    (one_source said) c.run_from_pcapng.ensures.runs c.run_from_pcapng.ensures.behaves)
    c.in-Some.ensures c.run_from_pcapng.ensures.runs c.run_from_pcapng.ensures.behaves
