-- The control file by which a peer announces the routes of a text: what it says at moment 0, before the first frame.
use Rattle.std.specs.Prelude.{ℕ, false, List, [], ◌∷◌, ◌++◌, map}
use Rattle.bgp_messages.specs.declared.messages.Message.{Message}
use Rattle.bgp_messages.specs.declared.messages.Message.TheVariants as messages
use Rattle.bgp_messages.specs.Messages.{spelling}
use Rattle.bgp_session.specs.declared.local_sides.Local.{Local}
use Rattle.sfc_routes.specs.declared.routes.Route.{Route}
use Rattle.sfc_routes.specs.declared.route_changes.RouteChange.{RouteChange}
use Rattle.control_files.specs.declared.segments.Segment.{Segment}
use Rattle.session_machine.specs.Spoken.{open_message}
use Rattle.announced_files.specs.Announcements.{announcing}

-- the peer as a local side of its own: its AS, its number as identifier, the hold time of the other side
abbrev pub other_side : Local → ℕ → ℕ → Local
other_side local peer asn = record { asn = asn; id = peer; hold = local.hold }

-- at moment 0 and position 0
abbrev pub at_start : ℕ → ℕ → List ℕ → Segment
at_start kind number bytes = record { kind = kind; peer = number; moment = 0; position = 0; bytes = bytes }

abbrev pub connected : ℕ → Segment
connected peer = at_start 1 peer []

-- a message of the peer at moment 0, behind so many frames
abbrev pub said_at : ℕ → ℕ → Message → Segment
said_at position peer m = record { kind = 2; peer = peer; moment = 0; position = position; bytes = spelling m }

abbrev pub said : ℕ → Message → Segment
said peer m = said_at 0 peer m

-- the session comes up: the connection, the peer's OPEN, a KEEPALIVE
abbrev pub greeting : Local → ℕ → ℕ → List Segment
greeting local peer asn = connected peer ∷ said peer (open_message (other_side local peer asn)) ∷ said peer messages.KeepAlive ∷ []

-- then an UPDATE for each route
abbrev pub announced : Local → ℕ → ℕ → List Route → List Segment
announced local peer asn routes = greeting local peer asn ++ map (λ r. said peer (announcing local.asn asn r)) routes

-- ---- what is heard of it

-- the change that announces one route, and has no word on another
abbrev pub change_for : ℕ → Route → RouteChange
change_for peer r = record { peer = peer; all = false; withdrawn = []; announced = r ∷ [] }
