-- What the step over a message answers.
use Rattle.std.specs.Prelude.{ℕ, ◌<◌, ◌≤◌, List, length, take}
use Rattle.bgp_messages.specs.declared.messages.Message.{Message}
use Rattle.bgp_messages.specs.declared.feeds.MessageStep.{MessageStep}
use Rattle.bgp_messages.specs.declared.feeds.MessageStep.TheVariants as steps
use Rattle.bgp_messages.specs.Messages.{IsMessage}
use Rattle.bgp_messages.specs.Refusals.{Refused, Held}
use Rattle.bgp_messages.specs.Faults.{told_of}

-- the first `len` bytes are the message
pub record Begins (bytes : List ℕ) (m : Message) (len : ℕ) : Type 0 where
  pub there : len ≤ length bytes
  pub least : 0 < len
  pub message : IsMessage (take len bytes) m

abbrev pub MessageGives : List ℕ → MessageStep → Type 0
MessageGives bytes steps.Wait = Held bytes
MessageGives bytes (steps.Refused fault) = Refused bytes (told_of fault)
MessageGives bytes (steps.Whole m len) = Begins bytes m len
MessageGives bytes steps.OutOfMemory = Unit {0}
