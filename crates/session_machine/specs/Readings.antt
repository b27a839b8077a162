-- What a piece of a stream brings: the messages whose last byte is in it, and what stands behind them.
use Rattle.std.specs.Prelude.{◌≡◌, ℕ, List, ◌++◌, ◌⊎◌}
use Rattle.bgp_messages.specs.declared.messages.Message.{Message}
use Rattle.bgp_messages.specs.Messages.{Cuts}
use Rattle.bgp_messages.specs.Refusals.{Told, Refused, Held}
use Rattle.session_machine.specs.declared.states.State.{State}
use Rattle.session_machine.specs.declared.states.State.TheVariants as states
use Rattle.session_machine.specs.declared.cores.Core.{Core}
use Rattle.session_machine.specs.Outcomes.{refuses}

-- the stream with the piece is cut into the messages that the stream had without it, the further ones, and a rest
pub record Brings (stream piece : List ℕ) (news : List Message) (rest : List ℕ) : Type 0 where
  pub before : List Message
  pub behind : List ℕ
  pub cut_before : Cuts stream before behind
  pub cut : Cuts (stream ++ piece) (before ++ news) rest

-- a stream that is refused ends the session with what its refusal says; a session that has ended takes nothing
abbrev pub refuses_in : State → ℕ → Core → Told → Core
refuses_in states.Idle number core t = core
refuses_in states.OpenSent number core t = refuses number core t.code t.subcode t.info
refuses_in (states.OpenConfirm hold) number core t = refuses number core t.code t.subcode t.info
refuses_in (states.Established hold) number core t = refuses number core t.code t.subcode t.info

-- the rest holds nothing that is refused, or it is refused
abbrev pub Judges : ℕ → List ℕ → Core → Core → Type 0
Judges number rest core next = (Held rest × (next ≡ core)) ⊎ ((t : Told) × Refused rest t × (next ≡ refuses_in core.state number core t))
