-- What the local side answers to the segments of a control file, as segments of the same format.
use Rattle.std.specs.Prelude.{ℕ, List, [], ◌∷◌, ◌++◌}
use Rattle.control_files.specs.declared.segments.Segment.{Segment}
use Rattle.control_files.specs.Segments.{segments_bytes}
use Rattle.session_machine.specs.Groups.{Entry}

-- what was sent to a peer, as a segment of kind 2 with the moment and the position of the event that sent it; none where nothing was
-- sent
abbrev pub reply_to : ℕ → ℕ → ℕ → List ℕ → List Segment
reply_to p m f [] = []
reply_to p m f (b ∷ bs) = record { kind = 2; peer = p; moment = m; position = f; bytes = b ∷ bs } ∷ []

-- one for each event that sent bytes, in order
abbrev pub replies_of : List Segment → List Entry → List Segment
replies_of [] log = []
replies_of (s ∷ ss) [] = []
replies_of (s ∷ ss) (e ∷ es) = reply_to s.peer s.moment s.position e.effects.bytes ++ replies_of ss es

-- as they stand in a file
abbrev pub reply_bytes : List Segment → List Entry → List ℕ
reply_bytes segments log = segments_bytes (replies_of segments log)
