-- The machine of a session over events (RFC 4271, section 8, in this project's profile). It steps over whole messages.
use Rattle.std.specs.Prelude.{◌≡◌, ℕ, ◌⊎◌, List, [], ◌++◌}
use Rattle.wire_base.specs.Numbers.{AreBytes}
use Rattle.bgp_messages.specs.declared.messages.Message.{Message}
use Rattle.bgp_messages.specs.Messages.{spelling}
use Rattle.bgp_update.specs.declared.routes.Nlri.{Nlri}
use Rattle.session_machine.specs.declared.sides.Side.{Side}
use Rattle.session_machine.specs.declared.states.State.{State}
use Rattle.session_machine.specs.declared.states.State.TheVariants as states
use Rattle.session_machine.specs.declared.cores.Core.{Core}
use Rattle.session_machine.specs.declared.events.Event.{Event}
use Rattle.session_machine.specs.declared.events.Event.TheVariants as events
use Rattle.session_machine.specs.declared.events.Effects.{Effects}
use Rattle.session_machine.specs.Spoken.{open_message}
use Rattle.session_machine.specs.Outcomes.{refuses, with_end}
use Rattle.session_machine.specs.Tables.{TakesAll}
use Rattle.session_machine.specs.Timers.{Expired, later, Keeps}
use Rattle.session_machine.specs.Readings.{Brings, Judges}

-- what happens at a moment
pub data Happening : Type 0 where
  connects : ℕ → Happening
  comes : ℕ → List ℕ → Happening
  closes : ℕ → Happening

abbrev pub happening : Event → Happening
happening (events.Connect moment) = connects moment
happening (events.Bytes moment piece) = comes moment piece.now
happening (events.Close moment) = closes moment

-- what comes is bytes
abbrev pub IsHappening : Happening → Type 0
IsHappening (connects moment) = Unit {0}
IsHappening (comes moment piece) = AreBytes piece
IsHappening (closes moment) = Unit {0}

-- a session between two events: its state, the moments of the last message and of the last bytes sent, the stream since
-- the connection (none where the session has ended), and the peer's routes
pub record Machine : Type 0 where
  pub state : State
  pub last : ℕ
  pub sent : ℕ
  pub stream : List ℕ
  pub nlris : List Nlri

abbrev pub beginning : Machine
beginning = record { state = states.Idle; last = 0; sent = 0; stream = []; nlris = [] }

-- as an event begins: nothing is sent and nothing given
abbrev pub core_of : Machine → Core
core_of m = record { state = m.state; nlris = m.nlris; bytes = []; changes = [] }

-- the stream of a session that goes on
abbrev pub stream_in : State → List ℕ → List ℕ
stream_in states.Idle stream = []
stream_in states.OpenSent stream = stream
stream_in (states.OpenConfirm hold) stream = stream
stream_in (states.Established hold) stream = stream

-- as an event ends that read these messages
abbrev pub after : Machine → ℕ → List ℕ → List Message → Core → Machine
after old moment stream read core = record {
  state = core.state;
  last = later read old.last moment;
  sent = later core.bytes old.sent moment;
  stream = stream_in core.state stream;
  nlris = core.nlris;
}

-- what the event has led to
abbrev pub given : Core → Effects
given core = record { bytes = core.bytes; changes = core.changes }

-- a connection: a session that was there ends without a message, and the OPEN is sent
pub record Connects (side : Side) (old : Machine) (moment : ℕ) (effects : Effects) (new : Machine) : Type 0 where
  pub effects_are : effects ≡ record { bytes = spelling (open_message side.local); changes = with_end side.peer old.state [] }
  pub new_is : new ≡ record { state = states.OpenSent; last = moment; sent = moment; stream = []; nlris = [] }

-- the connection is gone: the session ends without a message
pub record Closes (side : Side) (old : Machine) (effects : Effects) (new : Machine) : Type 0 where
  pub effects_are : effects ≡ record { bytes = []; changes = with_end side.peer old.state [] }
  pub new_is : new ≡ record { state = states.Idle; last = old.last; sent = old.sent; stream = []; nlris = [] }

-- bytes for no session are not used
pub record Ignores (old : Machine) (effects : Effects) (new : Machine) : Type 0 where
  pub effects_are : effects ≡ record { bytes = []; changes = [] }
  pub new_is : new ≡ old

-- the hold timer expired (RFC 4271, section 6.5): the bytes are not used
pub record Expires (side : Side) (old : Machine) (moment : ℕ) (effects : Effects) (new : Machine) : Type 0 where
  pub expired : Expired old.state old.last moment
  pub effects_are : effects ≡ given (refuses side.peer (core_of old) 4 0 [])
  pub new_is : new ≡ after old moment [] [] (refuses side.peer (core_of old) 4 0 [])

-- the bytes bring messages, which are taken in turn; then a refusal ends the session, or a KEEPALIVE may be due
pub record Reads (side : Side) (old : Machine) (moment : ℕ) (piece : List ℕ) (effects : Effects) (new : Machine) : Type 0 where
  pub in_time : ¬ (Expired old.state old.last moment)
  pub news : List Message
  pub rest : List ℕ
  pub brought : Brings old.stream piece news rest
  pub taken : Core
  pub takes : TakesAll side (core_of old) news taken
  pub judged : Core
  pub judges : Judges side.peer rest taken judged
  pub kept : Core
  pub keeps : Keeps old.sent moment judged kept
  pub effects_are : effects ≡ given kept
  pub new_is : new ≡ after old moment (old.stream ++ piece) news kept

abbrev pub Uses : Side → Machine → ℕ → List ℕ → Effects → Machine → Type 0
Uses side old moment piece effects new = Expires side old moment effects new ⊎ Reads side old moment piece effects new

abbrev pub ComesIn : State → Side → Machine → ℕ → List ℕ → Effects → Machine → Type 0
ComesIn states.Idle side old moment piece effects new = Ignores old effects new
ComesIn states.OpenSent side old moment piece effects new = Uses side old moment piece effects new
ComesIn (states.OpenConfirm hold) side old moment piece effects new = Uses side old moment piece effects new
ComesIn (states.Established hold) side old moment piece effects new = Uses side old moment piece effects new

-- one event
abbrev pub Steps : Side → Machine → Happening → Effects → Machine → Type 0
Steps side old (connects moment) effects new = Connects side old moment effects new
Steps side old (comes moment piece) effects new = ComesIn old.state side old moment piece effects new
Steps side old (closes moment) effects new = Closes side old effects new
