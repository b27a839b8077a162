-- Which bytes are a capture of which frames (libpcap's file format, version 2.4).
use Rattle.std.specs.Prelude.{◌≡◌, ◌≤◌, ℕ, List, ◌++◌, length, take, drop}
use Rattle.std.specs.List.{AllByRecursion, flat_map}
use Rattle.pcap_io.specs.declared.forms.Form.{Form}
use Rattle.pcap_io.specs.declared.frames.Captured.{Captured}
use Rattle.pcap_io.specs.Heads.{link_of, magic_of, packet_head_of, version_of, word}

-- a frame as it stands in a file: its times, both lengths, its bytes
abbrev pub packet : Form → Captured → List ℕ
packet form frame =
    packet_head_of form frame.seconds frame.fraction (length frame.bytes) frame.original ++ frame.bytes

-- frames as they stand in a file, one after the other
abbrev pub packets : Form → List Captured → List ℕ
packets form frames = flat_map (packet form) frames

-- what a file may say of a frame: no more bytes captured than there were, and both lengths in their limits
pub record IsWithinLimits (frame : Captured) : Type 0 where
  pub seconds : frame.seconds ≤ 4294967295
  pub fraction : frame.fraction ≤ 4294967295
  pub captured : length frame.bytes ≤ 262144
  pub whole : length frame.bytes ≤ frame.original
  pub original : frame.original ≤ 2147483647

-- 24 bytes that tell a form: its magic, version 2.4, Ethernet; zone, accuracy and snapshot length are free
pub record IsFileHead (form : Form) (head : List ℕ) : Type 0 where
  pub len : length head ≡ 24
  pub magic : take 4 head ≡ word form (magic_of form)
  pub version : take 4 (drop 4 head) ≡ version_of form
  pub link : drop 20 head ≡ link_of form

-- the bytes are a file header of the form, and then these frames
pub record IsCapture (bytes : List ℕ) (form : Form) (frames : List Captured) : Type 0 where
  pub head : List ℕ
  pub is_head : IsFileHead form head
  pub within : AllByRecursion IsWithinLimits frames
  pub all : bytes ≡ head ++ packets form frames
