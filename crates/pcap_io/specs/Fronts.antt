-- What stands at the front of the bytes behind a file header.
use Rattle.std.specs.Prelude.{◌≡◌, ◌<◌, ◌^◌, ℕ, List, ◌++◌}
use Rattle.pcap_io.specs.declared.forms.Form.{Form}
use Rattle.pcap_io.specs.declared.frames.Captured.{Captured}
use Rattle.pcap_io.specs.declared.frames.PacketHead.{PacketHead}
use Rattle.pcap_io.specs.Heads.{packet_head_of}
use Rattle.pcap_io.specs.Captures.{IsWithinLimits, packet}

-- the head's four numbers are these bytes
abbrev pub packet_head_is : Form → PacketHead → List ℕ → Type 0
packet_head_is form head bytes =
    packet_head_of form head.seconds head.fraction head.captured head.original ≡ bytes

-- numbers of a head, each of which fits its 4 bytes
pub record HeadFits (s f c o : ℕ) : Type 0 where
  pub seconds : s < 2 ^ 32
  pub fraction : f < 2 ^ 32
  pub captured : c < 2 ^ 32
  pub original : o < 2 ^ 32

-- the frame with this head and these bytes
abbrev pub frame_of : PacketHead → List ℕ → Captured
frame_of head body =
    record { seconds = head.seconds; fraction = head.fraction; original = head.original; bytes = body }

-- the bytes are a frame with this head and body, and then the rest
pub record BeginsWith (form : Form) (bytes : List ℕ) (head : PacketHead) (body rest : List ℕ) : Type 0 where
  pub within : IsWithinLimits (frame_of head body)
  pub all : bytes ≡ packet form (frame_of head body) ++ rest
