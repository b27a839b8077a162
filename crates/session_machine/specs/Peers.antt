-- Sessions with several peers: each has its own, and room for what comes.
use Rattle.std.specs.Prelude.{◌≡◌, ◌≢◌, ℕ, ◌≤◌, ◌<◌, List, length, map, All}
use Rattle.std.specs.List.{AllPairs, HoldsAt}
use Rattle.bgp_session.specs.declared.local_sides.Local.{Local}
use Rattle.session_machine.specs.declared.sides.Side.{Side}
use Rattle.session_machine.specs.declared.machines.Session.{Session}
use Rattle.session_machine.specs.Sides.{side_of}
use Rattle.session_machine.specs.Events.{Happening, connects, comes, closes}
use Rattle.session_machine.specs.Courses.{Room}
use Rattle.session_machine.specs.Sessions.{bytes_of}

-- no two sessions have one peer
abbrev pub PeersDiffer : List Session → Type 0
PeersDiffer list = AllPairs (λ s t. s.side.peer ≢ t.side.peer) list

-- the sessions of these peers, in their order
abbrev pub sides_of : Local → List (ℕ × ℕ) → List Side
sides_of local peers = map (λ p. side_of local p.0 p.1) peers

-- the session at this place has the peer
abbrev pub IsAt : ℕ → List Session → ℕ → Type 0
IsAt number list i = (i < length list) × HoldsAt (λ s. s.side.peer ≡ number) list i

abbrev pub HasPeer : ℕ → List Session → Type 0
HasPeer number list = (i : ℕ) × IsAt number list i

-- the session with the peer has room for what comes
abbrev pub HasRoom : ℕ → Happening → List Session → Type 0
HasRoom number event list = All (λ s. s.side.peer ≡ number → Room s.course event) list

-- how many bytes come
abbrev pub size_of : Happening → ℕ
size_of (connects moment) = 0
size_of (comes moment piece) = length piece
size_of (closes moment) = 0

-- each session got at most so many bytes since its connection
abbrev pub AllHold : ℕ → List Session → Type 0
AllHold most list = All (λ s. bytes_of s ≤ most) list
