-- The control side of a runner: its sessions, the routes of all peers, and how many changes they took.
use Rattle.std.specs.Prelude.{◌≡◌, ℕ, ◌+◌, ◌<◌, ◌≤◌, ◌^◌, List, [], ◌∷◌, ◌++◌, length, All}
use Rattle.bgp_session.specs.declared.local_sides.Local.{Local}
use Rattle.control_files.specs.declared.segments.Segment.{Segment}
use Rattle.session_machine.specs.declared.groups.Sessions.{Sessions}
use Rattle.session_machine.specs.Groups.{Entry}
use Rattle.session_machine.specs.Peers.{AllHold}
use Rattle.sfc_config.specs.Parts.{Parts}
use Rattle.sfc_routes.specs.declared.route_changes.RouteChange.{RouteChange}
use Rattle.sfc_routes.specs.LastWords.{Stands as AreAfter}
use Rattle.path_selection.specs.Paths.{ServicePath}
use Rattle.control_histories.specs.Happenings.{Logs}
use Rattle.control_histories.specs.Logs.{AreOfPeers, AreWith, Hears, changes_of}
use Rattle.control_histories.specs.Replies.{reply_bytes}
use Rattle.control_histories.specs.Versions.{TableAfter}
use Rattle.worker_run.specs.declared.controls.Control.{Control}

-- The sessions took the segments and had the effects of the log; the routes are those that stand after the log's changes, and
-- the version is the number of these.
pub record Follows (control : Control) (history : List Segment) (log : List Entry) : Type 0 where
  pub hears : Hears control.sessions history log
  pub routes : AreAfter control.routes (changes_of log)
  pub version : control.version ≡ length (changes_of log)

-- for some segments
abbrev pub FollowsSome : Control → Type 0
FollowsSome control = (history : List Segment) × (log : List Entry) × Follows control history log

-- the sessions are those with the setup's peers, and the table is that of the log's changes
pub record Publishes (setup : Parts) (control : Control) (table : List ServicePath) (history : List Segment) (log : List Entry) : Type 0 where
  pub with_peers : AreWith control.sessions setup.local setup.peers
  pub follows : Follows control history log
  pub table_is : TableAfter setup.roster (changes_of log) table

-- for some segments
abbrev pub PublishesSome : Parts → Control → List ServicePath → Type 0
PublishesSome setup control table = (history : List Segment) × (log : List Entry) × Publishes setup control table history log

-- ---- conditions

-- how many bytes the segments bring
abbrev pub bytes_in : List Segment → ℕ
bytes_in [] = 0
bytes_in (s ∷ ss) = length s.bytes + bytes_in ss

-- each has as many bytes as a control file allows
abbrev pub AreShort : List Segment → Type 0
AreShort segments = All (λ s. length s.bytes ≤ 65535) segments

-- each peer has got so few bytes since its connection that those of the segments keep their number one of 64 bits
abbrev pub HasRoomFor : Control → List Segment → Type 0
HasRoomFor control segments = (most : ℕ) × AllHold most control.sessions.sessions.items × (most + bytes_in segments < 2 ^ 64)

-- the control side may take the segments: they are of its peers, short, and there is room
pub record Ready (control : Control) (segments : List Segment) : Type 0 where
  pub local : Local
  pub peers : List (ℕ × ℕ)
  pub with_peers : AreWith control.sessions local peers
  pub of_peers : AreOfPeers peers segments
  pub short : AreShort segments
  pub room : HasRoomFor control segments

-- ---- steps

-- The session with the segment's peer stepped: these are the changes of its effects, and what it sent comes behind the replies.
pub record Hearing (sessions : Sessions) (history : List Segment) (log : List Entry) (segment : Segment) (changes : List RouteChange) (before after : List ℕ) : Type 0 where
  pub now : Entry
  pub logs : Logs (segment ∷ []) (now ∷ [])
  pub hears : Hears sessions (history ++ segment ∷ []) (log ++ now ∷ [])
  pub changes_are : changes ≡ now.effects.changes
  pub replies : after ≡ before ++ reply_bytes (segment ∷ []) (now ∷ [])

-- the control side took the segments, whose effects come behind the log, and what was sent comes behind the replies
pub record Took (control : Control) (history : List Segment) (log : List Entry) (segments : List Segment) (before after : List ℕ) : Type 0 where
  pub now : List Entry
  pub logs : Logs segments now
  pub follows : Follows control (history ++ segments) (log ++ now)
  pub replies : after ≡ before ++ reply_bytes segments now
