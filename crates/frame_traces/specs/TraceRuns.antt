-- The trace of a run on one thread: the packets between forwarders of each of its frames.
use Rattle.std.specs.Prelude.{List, take}
use Rattle.std.specs.List.{AllZip}
use Rattle.control_files.specs.declared.segments.Segment.{Segment}
use Rattle.pcap_io.specs.declared.frames.Captured.{Captured}
use Rattle.rounds.specs.Places.{Place, places_of}
use Rattle.rounds.specs.Rounds.{Round, Rounds}
use Rattle.rounds.specs.Says.{Says}
use Rattle.sfc_config.specs.Parts.{Parts}
use Rattle.session_machine.specs.Groups.{Entry}
use Rattle.control_histories.specs.Logs.{Heard, changes_of}
use Rattle.frame_traces.specs.Traces.{SaysTraces, TracesFrame}

-- the packets of a frame at its place: those of its walk over the table after all segments of its round
abbrev pub TracesAt : Parts → List Entry → Place → List Captured → Type 0
TracesAt setup log place handed = TracesFrame setup (changes_of (take place.high log)) place.frame handed

-- one list of packets for each frame, in order
pub record IsTrace (setup : Parts) (frames : List Captured) (segments : List Segment) (traces : List (List Captured)) : Type 0 where
  pub rounds : List Round
  pub are : Rounds 0 frames segments rounds
  pub log : List Entry
  pub heard : Heard setup.local setup.peers segments log
  pub each : AllZip (TracesAt setup log) (places_of 0 rounds) traces

-- what a round hands over, as rounds have it
abbrev pub trace_says : Parts → Says (List Captured)
trace_says setup history round traces = SaysTraces setup history round.segments round.frames traces
