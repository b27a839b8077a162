-- What the code keeps of a session, and the machine that it stands for.
use Rattle.std.specs.Prelude.{◌≡◌, ℕ, ◌+◌, ◌<◌, ◌^◌, List, length, Option, None, Some}
use Rattle.bgp_messages.specs.declared.refusals.Refusal.{Refusal}
use Rattle.bgp_messages.specs.Refusals.{told_in}
use Rattle.bgp_messages.specs.Kept.{Kept}
use Rattle.session_machine.specs.declared.sides.Side.{Side}
use Rattle.session_machine.specs.declared.states.State.{State}
use Rattle.session_machine.specs.declared.states.State.TheVariants as states
use Rattle.session_machine.specs.declared.cores.Core.{Core}
use Rattle.session_machine.specs.declared.courses.Course.{Course}
use Rattle.session_machine.specs.declared.events.Effects.{Effects}
use Rattle.session_machine.specs.Readings.{refuses_in}
use Rattle.session_machine.specs.Events.{Happening, connects, comes, closes, Machine, core_of, Steps, Uses, Reads, Expires}
use Rattle.session_machine.specs.Feeds.{Drained, fresh}

-- a stream is given up where the session has ended
abbrev pub FeedIn : State → Kept → Kept → Type 0
FeedIn states.Idle old new = new ≡ fresh
FeedIn states.OpenSent old new = new ≡ old
FeedIn (states.OpenConfirm hold) old new = new ≡ old
FeedIn (states.Established hold) old new = new ≡ old

-- a refusal, where there is one, ends the session
abbrev pub JudgesBy : ℕ → Option Refusal → Core → Core → Type 0
JudgesBy number None core next = next ≡ core
JudgesBy number (Some r) core next = next ≡ refuses_in core.state number core (told_in r)

-- what is kept is what the machine has
pub record Agrees (course : Course) (m : Machine) : Type 0 where
  pub core : course.core ≡ core_of m
  pub last : course.last ≡ m.last
  pub sent : course.sent ≡ m.sent
  pub feed : Drained course.feed m.stream

-- how many bytes came since the connection, at most
abbrev pub bytes_in : Course → ℕ
bytes_in course = course.feed.place + length course.feed.rest

-- the machine makes this step, to where the session stands then
pub record Goes (side : Side) (m : Machine) (event : Happening) (effects : Effects) (course : Course) : Type 0 where
  pub end : Machine
  pub steps : Steps side m event effects end
  pub agrees : Agrees course end

-- for bytes of a session that is there
pub record GoesUsing (side : Side) (m : Machine) (moment : ℕ) (piece : List ℕ) (effects : Effects) (course : Course) : Type 0 where
  pub end : Machine
  pub uses : Uses side m moment piece effects end
  pub agrees : Agrees course end

pub record GoesReading (side : Side) (m : Machine) (moment : ℕ) (piece : List ℕ) (effects : Effects) (course : Course) : Type 0 where
  pub end : Machine
  pub reads : Reads side m moment piece effects end
  pub agrees : Agrees course end

pub record GoesExpiring (side : Side) (m : Machine) (moment : ℕ) (effects : Effects) (course : Course) : Type 0 where
  pub end : Machine
  pub expires : Expires side m moment effects end
  pub agrees : Agrees course end

-- the number of them stays one of 64 bits
abbrev pub Room : Course → Happening → Type 0
Room course (connects moment) = Unit {0}
Room course (comes moment piece) = bytes_in course + length piece < 2 ^ 64
Room course (closes moment) = Unit {0}

-- how many there are after an event, at most
abbrev pub most_after : ℕ → Happening → ℕ
most_after before (connects moment) = 0
most_after before (comes moment piece) = before + length piece
most_after before (closes moment) = 0
