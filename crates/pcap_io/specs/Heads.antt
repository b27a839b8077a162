-- The numbers of a capture file in its order, and the heads that stand before the frames and before
-- each frame (libpcap's file format, version 2.4).
use Rattle.std.specs.Prelude.{ℕ, List, ◌++◌, if◌then◌else◌}
use Rattle.std.specs.Int.{to_be_bytes, to_le_bytes, w16, w32}
use Rattle.pcap_io.specs.declared.forms.Form.{Form}

-- a number in 4 bytes, in the file's order
unfoldable pub word : Form → ℕ → List ℕ
word form number = if form.big then to_be_bytes w32 number else to_le_bytes w32 number

-- a number in 2 bytes, in the file's order
unfoldable pub half : Form → ℕ → List ℕ
half form number = if form.big then to_be_bytes w16 number else to_le_bytes w16 number

-- the number that tells the unit of the fractions, and by its bytes the order of all others
abbrev pub magic_of : Form → ℕ
magic_of form = if form.nano then 0xA1B23C4D else 0xA1B2C3D4

-- version 2.4
abbrev pub version_of : Form → List ℕ
version_of form = half form 2 ++ half form 4

-- link type 1 is Ethernet
abbrev pub link_of : Form → List ℕ
link_of form = word form 1

-- the head that is written: zone and accuracy 0, and the greatest number of captured bytes
abbrev pub file_head : Form → List ℕ
file_head form =
    word form (magic_of form) ++ version_of form ++ word form 0 ++ word form 0 ++ word form 262144 ++ link_of form

-- the head of a frame with these times and lengths
abbrev pub packet_head_of : Form → ℕ → ℕ → ℕ → ℕ → List ℕ
packet_head_of form seconds fraction captured original =
    word form seconds ++ word form fraction ++ word form captured ++ word form original
