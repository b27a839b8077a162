use Rattle.sfc_desk.specs.declared.ports.Port.TheVariants.{Capture, Made}
use Rattle.std.proofs.Common.{refl}
use Rattle.commands.proofs.CommandLemmas.{answered}
use Rattle.frame_streams.proofs.RunLemmas.{one_input}
use Rattle.frame_streams.proofs.StreamLemmas.{asked_is_answered, served}
use Rattle.to_pcapng_command.specs.ToPcapngCommand.{IsToPcapng, ToPcapngRuns, ToPcapngWants, ToPcapngWrites, to_pcapng_ports}
use Rattle.to_pcapng_command.specs.ToPcapngSteps.{to_pcapng_of}
use Rattle.to_pcapng_command.proofs.AnswerLemmas.{one_said, answers_once}
use Rattle.to_pcapng_command.proofs.to_pcapng_calls.to_pcapng_call.Goals as goal

-- the words are those of the command
pub returns-in-Some : goal.returns-in-Some
returns-in-Some g c =
    let said = to_pcapng_of c.in-Some.said in
    let held = g.D.Desk.held c.args.desk.now in
    let then = g.D.Desk.at c.args.desk.now in
    let now = g.D.Desk.at c.run_to_pcapng.new.desk in
    answered IsToPcapng to_pcapng_ports ToPcapngRuns ToPcapngWants c.args.words.now said g.D.Desk.tells held then now c.run_to_pcapng.result
    (λ other. one_said c.args.words.now said other c.in-Some.ensures)
    (served Capture (to_pcapng_ports said) ToPcapngWrites (held said.capture) g.D.Desk.tells then now c.run_to_pcapng.result c.run_to_pcapng.ensures.runs)
    (λ wanted. asked_is_answered Capture said.capture (to_pcapng_ports said) ToPcapngWrites g.D.Desk.tells held then now c.run_to_pcapng.result wanted answers_once
    (one_input Capture Made said.capture said.made refl) c.run_to_pcapng.ensures.runs c.run_to_pcapng.ensures.behaves)
    c.in-Some.ensures c.run_to_pcapng.ensures.runs c.run_to_pcapng.ensures.behaves
