-- What is written for the frames of a capture: one section, its numbers with the lowest byte first, one interface, and an
-- enhanced packet for each frame (pcapng, sections 4.1 to 4.3).
use Rattle.std.specs.Prelude.{◌≡◌, ℕ, ◌+◌, ◌-◌, ◌*◌, ◌/◌, ◌%◌, ◌^◌, Bool, true, nat_le, if◌then◌else◌, List, [], ◌∷◌, ◌++◌, length, take}
use Rattle.std.specs.List.{flat_map}
use Rattle.byteorder.specs.Endian.{little_bytes}
use Rattle.pcap_io.specs.declared.forms.Form.{Form}
use Rattle.pcap_io.specs.declared.frames.Captured.{Captured}
use Rattle.pcap_io.specs.Captures.{IsWithinLimits}
use Rattle.pcapng_io.specs.declared.frames.NgFrame.{NgFrame}
use Rattle.pcapng_io.specs.Options.{padded}

-- a number in 4 bytes, and in 2
abbrev pub word : ℕ → List ℕ
word number = little_bytes 4 number

abbrev pub half : ℕ → List ℕ
half number = little_bytes 2 number

-- the resolution of a capture's fractions
abbrev pub resolution_of : Form → ℕ
resolution_of form = if form.nano then 9 else 6

-- how many of them a second has
abbrev pub unit_of : Form → ℕ
unit_of form = if form.nano then 1000000000 else 1000000

-- the section header: version 1.0, of no told length
abbrev pub section_header : List ℕ
section_header =
    word 0x0A0D0D0A ++ word 28 ++ word 0x1A2B3C4D ++ half 1 ++ half 0 ++ word 0xFFFFFFFF ++ word 0xFFFFFFFF ++ word 28

-- the interface: Ethernet, at most 262,144 bytes of a frame, and this resolution
abbrev pub interface_description : ℕ → List ℕ
interface_description resolution =
    word 1 ++ word 32 ++ half 1 ++ half 0 ++ word 262144 ++ half 9 ++ half 1 ++ (resolution ∷ 0 ∷ 0 ∷ 0 ∷ []) ++ word 0 ++ word 32

-- what stands before the packets
unfoldable pub ng_head_of : Form → List ℕ
ng_head_of form = section_header ++ interface_description (resolution_of form)

-- seconds and a fraction as ticks
abbrev pub ticks_of : Form → ℕ → ℕ → ℕ
ticks_of form seconds fraction = seconds * unit_of form + fraction

-- the 28 bytes before a packet's own
unfoldable pub block_head_of : ℕ → ℕ → ℕ → List ℕ
block_head_of ticks captured original =
    word 6 ++ word (32 + padded captured) ++ word 0 ++ word (ticks / 2 ^ 32) ++ word (ticks % 2 ^ 32) ++ word captured ++ word original

-- and those behind them: 0 to a multiple of 4, and the length again
unfoldable pub block_end_of : ℕ → List ℕ
block_end_of captured = take (padded captured - captured) (0 ∷ 0 ∷ 0 ∷ []) ++ word (32 + padded captured)

-- the enhanced packet of a frame
abbrev pub packet_block : Form → Captured → List ℕ
packet_block form frame =
    block_head_of (ticks_of form frame.seconds frame.fraction) (length frame.bytes) frame.original ++ (frame.bytes ++ block_end_of (length frame.bytes))

-- the file of some frames
abbrev pub ng_of : Form → List Captured → List ℕ
ng_of form frames = ng_head_of form ++ flat_map (packet_block form) frames

-- a fraction carries the time of its frame no further than 4,294,967,295 seconds
abbrev pub has_time : Form → ℕ → ℕ → Bool
has_time form seconds fraction = nat_le (seconds + fraction / unit_of form) 4294967295

-- a frame that may be written
pub record MayBeWritten (form : Form) (frame : Captured) : Type 0 where
  pub within : IsWithinLimits frame
  pub time : has_time form frame.seconds frame.fraction ≡ true

-- the frame as a reader gets it: at the same time in nanoseconds, where a fraction past a second is carried into the seconds
abbrev pub as_ng : Form → Captured → NgFrame
as_ng form frame = record {
  seconds = frame.seconds + frame.fraction / unit_of form;
  nanos = frame.fraction % unit_of form * (1000000000 / unit_of form);
  original = frame.original;
  interface = 0;
  ethernet = true;
  bytes = frame.bytes;
}
