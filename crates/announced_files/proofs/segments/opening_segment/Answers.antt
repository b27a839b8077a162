-- What is said is the OPEN of the peer as a local side.
use Rattle.std.proofs.Common.{◌≡◌, IfOk, subst, ap, ◌∙◌}
use Rattle.bgp_messages.specs.declared.messages.Message.TheVariants as messages
use Rattle.bgp_messages.specs.declared.opens.Open.{Open}
use Rattle.control_files.specs.declared.segments.Segment.{Segment}
use Rattle.session_machine.specs.Spoken.{opening}
use Rattle.announced_files.specs.Announced.{said}
use Rattle.announced_files.proofs.segments.opening_segment.Goals as goal

pub returns : goal.returns
returns c =
    subst (λ (o : Open). IfOk c.said_segment.result (λ (s : Segment). s ≡ said c.args.peer (messages.Open o))) (c.in_ok-opening.ensures ∙ ap opening c.other_side_of.ensures) c.said_segment.ensures
