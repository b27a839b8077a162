-- The sessions with several peers, each by itself.
use Rattle.std.specs.Prelude.{◌≡◌, ℕ, ◌==◌, false, List, map, All}
use Rattle.std.specs.List.{filter}
use Rattle.session_machine.specs.declared.machines.Session.{Session}
use Rattle.session_machine.specs.declared.groups.Sessions.{Sessions}
use Rattle.session_machine.specs.declared.events.Effects.{Effects}
use Rattle.session_machine.specs.Events.{Happening}
use Rattle.session_machine.specs.Sessions.{Stands}

-- an event of a peer, and the effects that it had
pub record Entry : Type 0 where
  pub peer : ℕ
  pub event : Happening
  pub effects : Effects

abbrev pub entry : ℕ → Happening → Effects → Entry
entry number h f = record { peer = number; event = h; effects = f }

-- the entries of one peer
abbrev pub of_peer : ℕ → List Entry → List Entry
of_peer number log = filter (λ e. e.peer == number) log

abbrev pub events_of : ℕ → List Entry → List Happening
events_of number log = map (λ e. e.event) (of_peer number log)

abbrev pub effects_of : ℕ → List Entry → List Effects
effects_of number log = map (λ e. e.effects) (of_peer number log)

-- the session took the events of its peer and gave the effects that they had
abbrev pub StandsIn : List Entry → Session → Type 0
StandsIn log s = Stands s (events_of s.side.peer log) (effects_of s.side.peer log)

-- each session by itself
pub record StandAll (all : Sessions) (log : List Entry) : Type 0 where
  pub each : All (StandsIn log) all.sessions.items
  pub works : all.failed ≡ false
