-- The timers of a session (RFC 4271, sections 4.4 and 6.5), in microseconds.
use Rattle.std.specs.Prelude.{◌≡◌, ℕ, ◌-◌, ◌/◌, ◌<◌, ◌≤◌, ◌⊎◌, List, [], ◌∷◌}
use Rattle.bgp_messages.specs.declared.messages.Message.TheVariants as messages
use Rattle.session_machine.specs.declared.states.State.{State}
use Rattle.session_machine.specs.declared.states.State.TheVariants as states
use Rattle.session_machine.specs.declared.cores.Core.{Core}
use Rattle.session_machine.specs.Outcomes.{says}

-- how long nothing may come, 0 for ever: 4 minutes before the peer's OPEN, then the hold time
abbrev pub timer_of : State → ℕ
timer_of states.Idle = 0
timer_of states.OpenSent = 240000000
timer_of (states.OpenConfirm hold) = hold
timer_of (states.Established hold) = hold

-- the timer is set, and the moment is at least so long after the last message
pub record Expired (state : State) (last moment : ℕ) : Type 0 where
  pub set : 0 < timer_of state
  pub over : timer_of state ≤ moment - last

-- the hold time, in the states in which KEEPALIVEs are sent, else 0
abbrev pub hold_in : State → ℕ
hold_in states.Idle = 0
hold_in states.OpenSent = 0
hold_in (states.OpenConfirm hold) = hold
hold_in (states.Established hold) = hold

-- this moment where the list is not empty, else the earlier one
abbrev pub later : {X : Type 0} → List X → ℕ → ℕ → ℕ
later [] earlier moment = earlier
later (x ∷ xs) earlier moment = moment

-- a third of the hold time after bytes were sent, those of this event too
pub record Due (core : Core) (sent moment : ℕ) : Type 0 where
  pub set : 0 < hold_in core.state
  pub over : hold_in core.state / 3 ≤ moment - later core.bytes sent moment

-- then one KEEPALIVE is sent
abbrev pub Keeps : ℕ → ℕ → Core → Core → Type 0
Keeps sent moment core next = (Due core sent moment × (next ≡ says core messages.KeepAlive)) ⊎ ((¬ (Due core sent moment)) × (next ≡ core))
