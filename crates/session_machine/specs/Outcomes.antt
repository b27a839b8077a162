-- What a session comes to in the course of one event: its state, its routes, the bytes sent and the changes given so far.
use Rattle.std.specs.Prelude.{ℕ, true, if◌then◌else◌, nat_le, List, [], ◌∷◌, ◌++◌, length}
use Rattle.bgp_messages.specs.declared.messages.Message.{Message}
use Rattle.bgp_messages.specs.Messages.{spelling}
use Rattle.sfc_routes.specs.declared.route_changes.RouteChange.{RouteChange}
use Rattle.session_machine.specs.declared.states.State.{State}
use Rattle.session_machine.specs.declared.states.State.TheVariants as states
use Rattle.session_machine.specs.declared.cores.Core.{Core}
use Rattle.session_machine.specs.Spoken.{notification}
use Rattle.session_machine.specs.KnownRoutes.{after_change}

-- a message is sent
abbrev pub says : Core → Message → Core
says core m = record core { bytes = core.bytes ++ spelling m }

-- every route of the peer goes
abbrev pub all_gone : ℕ → RouteChange
all_gone number = record { peer = number; all = true; withdrawn = []; announced = [] }

-- the end of an established session is a change
abbrev pub with_end : ℕ → State → List RouteChange → List RouteChange
with_end number states.Idle changes = changes
with_end number states.OpenSent changes = changes
with_end number (states.OpenConfirm hold) changes = changes
with_end number (states.Established hold) changes = changes ++ all_gone number ∷ []

-- the session ends without a message
abbrev pub ends : ℕ → Core → Core
ends number core = record { state = states.Idle; nlris = []; bytes = core.bytes; changes = with_end number core.state core.changes }

-- the session ends with a NOTIFICATION
abbrev pub refuses : ℕ → Core → ℕ → ℕ → List ℕ → Core
refuses number core code subcode info = ends number (says core (notification code subcode info))

-- Finite State Machine Error (RFC 4271, section 6.6): the message is none of this state
abbrev pub out_of_order : ℕ → Core → Core
out_of_order number core = refuses number core 5 0 []

-- a change of the peer's routes is taken, or Cease, Maximum Number of Prefixes Reached (RFC 4486, section 4): a peer has at
-- most 1,024 routes, which is this project's own limit
abbrev pub takes_change : ℕ → Core → RouteChange → Core
takes_change number core change =
    if nat_le (length (after_change core.nlris change)) 1024
    then record core { nlris = after_change core.nlris change; changes = core.changes ++ change ∷ [] }
    else refuses number core 6 1 []
