-- What showing one message does.
use Rattle.std.specs.Prelude.{◌≡◌, ℕ, ◌+◌, List, ◌++◌, Result, Ok, Err}
use Rattle.wire_base.specs.declared.faults.OutOfMemory.{OutOfMemory}
use Rattle.bgp_messages.specs.declared.messages.Message.{Message}
use Rattle.bgp_messages.specs.declared.messages.Message.TheVariants as messages
use Rattle.bgp_messages.specs.Kept.{Kept}
use Rattle.bgp_messages.specs.Calls.{Gives, Waits}
use Rattle.bgp_update.specs.declared.updates.Update.{Update}
use Rattle.bgp_update.specs.Updates.{IsUpdate}
use Rattle.bgp_update.specs.Refusals.{Refused as RefusedUpdate}
use Rattle.sfc_texts.specs.declared.bgp_text.Step.{Step}
use Rattle.sfc_texts.specs.declared.bgp_text.Step.TheVariants as steps
use Rattle.sfc_texts.specs.BgpText.{update_lines, ShowsMessage, refused_line, ShowsFrom}

-- the lines of the update were appended, which the content is
pub record AppendsUpdate (body before after : List ℕ) : Type 0 where
  pub update : Update
  pub is_update : IsUpdate body update
  pub appended : after ≡ before ++ update_lines update

-- the line of the content's refusal was appended
pub record AppendsRefusal (place : ℕ) (body before after : List ℕ) : Type 0 where
  pub inside : ℕ
  pub refused : RefusedUpdate body inside
  pub appended : after ≡ before ++ refused_line 3 1 (place + 19 + inside)

-- the lines of an update, or of the content's refusal
abbrev pub UpdateShown : ℕ → List ℕ → List ℕ → List ℕ → Result Step OutOfMemory → Type 0
UpdateShown place body before after (Ok steps.Message) = AppendsUpdate body before after
UpdateShown place body before after (Ok steps.Waits) = ⊥
UpdateShown place body before after (Ok steps.Over) = AppendsRefusal place body before after
UpdateShown place body before after (Err fault) = Unit {0}

-- the lines of the message were appended
pub record AppendsMessage (m : Message) (before after : List ℕ) : Type 0 where
  pub shown : List ℕ
  pub shows : ShowsMessage m shown
  pub appended : after ≡ before ++ shown

-- the message is an UPDATE, and the line of its refusal was appended
pub record AppendsBad (place : ℕ) (m : Message) (before after : List ℕ) : Type 0 where
  pub body : List ℕ
  pub is_update : m ≡ messages.Update body
  pub refusal : AppendsRefusal place body before after

-- the lines of a message, or of its refusal
abbrev pub MessageShown : ℕ → Message → List ℕ → List ℕ → Result Step OutOfMemory → Type 0
MessageShown place m before after (Ok steps.Message) = AppendsMessage m before after
MessageShown place m before after (Ok steps.Waits) = ⊥
MessageShown place m before after (Ok steps.Over) = AppendsBad place m before after
MessageShown place m before after (Err fault) = Unit {0}

-- the next message was used up, and its lines were appended
pub record Moves (old new : Kept) (before after : List ℕ) : Type 0 where
  pub next : Message
  pub gives : Gives old new next
  pub lines : AppendsMessage next before after

-- all that is left to show was appended, whatever follows
pub record Ends (old : Kept) (before after : List ℕ) : Type 0 where
  pub text : List ℕ
  pub shows : (left : List ℕ) → ShowsFrom old.place (old.rest ++ left) text
  pub appended : after ≡ before ++ text

-- nothing was appended, and the rest is held
pub record Holds (old new : Kept) (before after : List ℕ) : Type 0 where
  pub waits : Waits old new
  pub same : after ≡ before

-- what the feed's next answer shows
abbrev pub NextShown : Kept → Kept → List ℕ → List ℕ → Result Step OutOfMemory → Type 0
NextShown old new before after (Ok steps.Message) = Moves old new before after
NextShown old new before after (Ok steps.Waits) = Holds old new before after
NextShown old new before after (Ok steps.Over) = Ends old before after
NextShown old new before after (Err fault) = Unit {0}
