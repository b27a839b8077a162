-- The frames of a batch, each with what became of it.
use Rattle.std.specs.Prelude.{ℕ, List, [], map, None, All}
use Rattle.pcap_io.specs.declared.frames.Captured.{Captured}
use Rattle.pcap_io.specs.declared.frames.PacketHead.{PacketHead}
use Rattle.pcap_io.specs.Captures.{IsWithinLimits}
use Rattle.record_text.specs.declared.records.End.TheVariants.{Bypass}
use Rattle.record_text.specs.declared.records.Record.{Record}
use Rattle.service_functions.specs.declared.functions.Function.{Function}
use Rattle.forwarder.specs.Workspaces.{taken_in}
use Rattle.forwarder.specs.Records.{frame_after}

-- a frame with its times, and the record of it
pub record Carried : Type 0 where
  pub frame : Captured
  pub outcome : Record

-- the record before a round
abbrev pub no_walk : Record
no_walk = record { worker = 0; path = None; versions = record { items = [] }; visits = record { items = [] }; end = Bypass }

abbrev pub pushed : Captured → Carried
pushed frame = record { frame = frame; outcome = no_walk }

-- the frame of a packet with this head and these bytes
abbrev pub frame_of : PacketHead → List ℕ → Captured
frame_of head captured = record { seconds = head.seconds; fraction = head.fraction; original = head.original; bytes = captured }

abbrev pub frames_in : List Carried → List Captured
frames_in batch = map (λ c. c.frame) batch

abbrev pub records_in : List Carried → List Record
records_in batch = map (λ c. c.outcome) batch

-- each frame is one that a capture may have
abbrev pub AreWithinLimits : List Carried → Type 0
AreWithinLimits batch = All (λ c. IsWithinLimits c.frame) batch

-- the frame as its walk leaves it, with its own times
abbrev pub frame_left : List Function → Captured → Record → Captured
frame_left functions frame r = record {
  seconds = frame.seconds;
  fraction = frame.fraction;
  original = (frame_after functions (taken_in frame.bytes frame.original) r).original;
  bytes = (frame_after functions (taken_in frame.bytes frame.original) r).bytes;
}
