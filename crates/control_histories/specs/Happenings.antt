-- What the segments of a control file say that happens to the sessions with its peers.
use Rattle.std.specs.Prelude.{◌≡◌, ℕ, ◌==◌, if◌then◌else◌, List, map}
use Rattle.control_files.specs.declared.segments.Segment.{Segment}
use Rattle.session_machine.specs.Events.{Happening, connects, comes, closes}
use Rattle.session_machine.specs.Groups.{Entry}

-- kind 1 is a connection, kind 2 brings bytes, kind 3 is the end of a connection
abbrev pub happens : Segment → Happening
happens s = if s.kind == 1 then connects s.moment else (if s.kind == 2 then comes s.moment s.bytes else closes s.moment)

-- a peer, and what happens to the session with it: as a segment says it, and as an entry of a log has it
abbrev pub said_by : Segment → ℕ × Happening
said_by s = (s.peer, happens s)

abbrev pub told_by : Entry → ℕ × Happening
told_by e = (e.peer, e.event)

-- the log has an entry for each segment, in order: its peer, what happens, and the effects that it had
abbrev pub Logs : List Segment → List Entry → Type 0
Logs segments log = map told_by log ≡ map said_by segments
