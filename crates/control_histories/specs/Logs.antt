-- What the sessions with the peers of a control file make of its segments.
use Rattle.std.specs.Prelude.{◌≡◌, ℕ, List, map, All, Contains}
use Rattle.std.specs.List.{flat_map}
use Rattle.bgp_session.specs.declared.local_sides.Local.{Local}
use Rattle.control_files.specs.declared.segments.Segment.{Segment}
use Rattle.control_files.specs.Segments.{numbers}
use Rattle.sfc_routes.specs.declared.route_changes.RouteChange.{RouteChange}
use Rattle.session_machine.specs.declared.groups.Sessions.{Sessions}
use Rattle.session_machine.specs.Histories.{Sent}
use Rattle.session_machine.specs.Groups.{Entry, StandAll, events_of, effects_of}
use Rattle.session_machine.specs.Peers.{sides_of}
use Rattle.control_histories.specs.Happenings.{Logs}

-- The log of the segments, for the local side and these peers, each with its AS: the session with a peer, by itself, gives the
-- effects of that peer's entries for what happens in them (RFC 4271, section 8).
pub record Heard (local : Local) (peers : List (ℕ × ℕ)) (segments : List Segment) (log : List Entry) : Type 0 where
  pub in_order : Logs segments log
  pub each : All (λ p. Sent local p.0 p.1 (events_of p.0 log) (effects_of p.0 log)) peers

-- each segment is of one of the peers
abbrev pub AreOfPeers : List (ℕ × ℕ) → List Segment → Type 0
AreOfPeers peers segments = All (λ s. Contains (numbers peers) s.peer) segments

-- the changes of routes that the events made, all in order
abbrev pub changes_of : List Entry → List RouteChange
changes_of log = flat_map (λ e. e.effects.changes) log

-- ---- sessions that take the segments

-- the sessions are those of the local side with these peers
abbrev pub AreWith : Sessions → Local → List (ℕ × ℕ) → Type 0
AreWith all local peers = map (λ s. s.side) all.sessions.items ≡ sides_of local peers

-- the sessions took the segments, and had these effects
pub record Hears (all : Sessions) (segments : List Segment) (log : List Entry) : Type 0 where
  pub stands : StandAll all log
  pub in_order : Logs segments log
