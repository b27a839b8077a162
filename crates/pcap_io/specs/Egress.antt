-- What is written for the frames of a capture that leave.
use Rattle.std.specs.Prelude.{ℕ, List, [], ◌∷◌, ◌++◌, Option, None, Some}
use Rattle.pcap_io.specs.declared.forms.Form.{Form}
use Rattle.pcap_io.specs.declared.frames.Captured.{Captured}
use Rattle.pcap_io.specs.Captures.{packet}
use Rattle.pcap_io.specs.Heads.{file_head}

-- a frame as it leaves: its bytes, and its length on the wire
pub record Leaving : Type 0 where
  pub original : ℕ
  pub bytes : List ℕ

-- it has the times of the frame that came in
abbrev pub as_it_leaves : Captured → Leaving → Captured
as_it_leaves frame left = record { seconds = frame.seconds; fraction = frame.fraction; original = left.original; bytes = left.bytes }

-- what one frame leaves in the egress: its packet, or nothing
abbrev pub packet_left : Form → Captured → Option Leaving → List ℕ
packet_left form frame None = []
packet_left form frame (Some left) = packet form (as_it_leaves frame left)

-- what the frames leave, in their order, with one entry for each
abbrev pub packets_left : Form → List Captured → List (Option Leaving) → List ℕ
packets_left form [] leaving = []
packets_left form (frame ∷ frames) [] = []
packets_left form (frame ∷ frames) (left ∷ leaving) = packet_left form frame left ++ packets_left form frames leaving

-- the egress: a file header of the input's form and what the frames leave; nothing where there is no form
abbrev pub egress_of : Option Form → List Captured → List (Option Leaving) → List ℕ
egress_of None frames leaving = []
egress_of (Some form) frames leaving = file_head form ++ packets_left form frames leaving
