-- What a whole message makes of a session, by its state (RFC 4271, section 8.2.2, in this project's profile).
use Rattle.std.specs.Prelude.{◌≡◌, ℕ, ◌*◌, ◌==◌, min, if◌then◌else◌, List, [], ◌∷◌, ◌⊎◌}
use Rattle.bgp_messages.specs.declared.messages.Message.{Message}
use Rattle.bgp_messages.specs.declared.messages.Message.TheVariants as messages
use Rattle.bgp_messages.specs.declared.opens.Open.{Open}
use Rattle.bgp_messages.specs.Opens.{peer_as_of}
use Rattle.bgp_update.specs.declared.updates.Update.{Update}
use Rattle.bgp_update.specs.Updates.{IsUpdate}
use Rattle.bgp_update.specs.Refusals.{Refused}
use Rattle.sfc_routes.specs.declared.route_changes.RouteChange.{RouteChange}
use Rattle.sfc_routes.specs.PeerRoutes.{IsRouteChange}
use Rattle.sfc_routes.specs.Meanings.{ChangeOf}
use Rattle.session_machine.specs.declared.sides.Side.{Side}
use Rattle.session_machine.specs.declared.states.State.{State}
use Rattle.session_machine.specs.declared.states.State.TheVariants as states
use Rattle.session_machine.specs.declared.cores.Core.{Core}
use Rattle.session_machine.specs.Outcomes.{says, ends, refuses, out_of_order, takes_change}

-- the hold time in microseconds: the smaller of two in seconds, 0 where one of them is 0 (RFC 4271, section 4.2)
abbrev pub hold_of : ℕ → ℕ → ℕ
hold_of own other = 1000000 * min own other

-- the first OPEN: of the AS that was configured, else Bad Peer AS (RFC 4271, section 6.2)
abbrev pub takes_open : Side → Core → Open → Core
takes_open side core o =
    if peer_as_of o == side.peer_as
    then record core { state = states.OpenConfirm (hold_of side.local.hold o.hold); bytes = (says core messages.KeepAlive).bytes }
    else refuses side.peer core 2 2 []

-- the content is no update: UPDATE Message Error, Malformed Attribute List (RFC 4271, section 6.3)
pub record RefusesUpdate (number : ℕ) (core : Core) (content : List ℕ) (next : Core) : Type 0 where
  pub place : ℕ
  pub refused : Refused content place
  pub done : next ≡ refuses number core 3 1 []

-- the content is an update, and the change of routes that it is is taken
pub record ReadsUpdate (number : ℕ) (core : Core) (content : List ℕ) (next : Core) : Type 0 where
  pub update : Update
  pub change : RouteChange
  pub spelled : IsUpdate content update
  pub meant : ChangeOf number update change
  pub fits : IsRouteChange change
  pub done : next ≡ takes_change number core change

abbrev pub TakesUpdate : ℕ → Core → List ℕ → Core → Type 0
TakesUpdate number core content next = RefusesUpdate number core content next ⊎ ReadsUpdate number core content next

-- the table; a session that has ended takes nothing
abbrev pub TakesIn : State → Side → Core → Message → Core → Type 0
TakesIn states.Idle side core m next = next ≡ core
TakesIn states.OpenSent side core (messages.Open o) next = next ≡ takes_open side core o
TakesIn states.OpenSent side core (messages.Update content) next = next ≡ out_of_order side.peer core
TakesIn states.OpenSent side core (messages.Notification n) next = next ≡ ends side.peer core
TakesIn states.OpenSent side core messages.KeepAlive next = next ≡ out_of_order side.peer core
TakesIn (states.OpenConfirm hold) side core (messages.Open o) next = next ≡ out_of_order side.peer core
TakesIn (states.OpenConfirm hold) side core (messages.Update content) next = next ≡ out_of_order side.peer core
TakesIn (states.OpenConfirm hold) side core (messages.Notification n) next = next ≡ ends side.peer core
TakesIn (states.OpenConfirm hold) side core messages.KeepAlive next = next ≡ record core { state = states.Established hold }
TakesIn (states.Established hold) side core (messages.Open o) next = next ≡ out_of_order side.peer core
TakesIn (states.Established hold) side core (messages.Update content) next = TakesUpdate side.peer core content next
TakesIn (states.Established hold) side core (messages.Notification n) next = next ≡ ends side.peer core
TakesIn (states.Established hold) side core messages.KeepAlive next = next ≡ core

abbrev pub Takes : Side → Core → Message → Core → Type 0
Takes side core m next = TakesIn core.state side core m next

-- one message after the other
abbrev pub TakesAll : Side → Core → List Message → Core → Type 0
TakesAll side core [] next = next ≡ core
TakesAll side core (m ∷ ms) next = (mid : Core) × Takes side core m mid × TakesAll side mid ms next
