-- The packets between forwarders of the frames of a run, as they stand in a capture.
use Rattle.std.specs.Prelude.{◌≡◌, ◌≢◌, ◌⊎◌, ℕ, ◌+◌, List, [], ◌∷◌, ◌++◌, length, take, Option, Some, None}
use Rattle.std.specs.List.{AllZip, flat_map}
use Rattle.wire_base.specs.Numbers.{AreBytes}
use Rattle.control_files.specs.declared.segments.Segment.{Segment}
use Rattle.pcap_io.specs.declared.forms.Form.{Form}
use Rattle.pcap_io.specs.declared.frames.Captured.{Captured}
use Rattle.pcap_io.specs.Captures.{packets}
use Rattle.pcap_io.specs.Heads.{file_head}
use Rattle.record_text.specs.declared.records.Record.{Record}
use Rattle.session_machine.specs.Groups.{Entry}
use Rattle.sfc_config.specs.Parts.{Parts}
use Rattle.sfc_routes.specs.declared.route_changes.RouteChange.{RouteChange}
use Rattle.classifier.specs.Stations.{Station}
use Rattle.forwarder.specs.Traces.{IsPacket}
use Rattle.control_histories.specs.Logs.{Heard, changes_of}
use Rattle.worker_run.specs.Records.{SingleRecord}

-- A packet that goes from a station to the next one, at another forwarder (RFC 7665, section 4.3), with the times of its frame. On the
-- wire it is as long as the frame there, the header and the 14 bytes before them; at most 262,144 of its bytes are captured.
pub record IsHanded (frame : Captured) (s next : Station) (p : Captured) : Type 0 where
  pub whole : List ℕ
  pub is_packet : IsPacket s.forwarder next.forwarder next.header next.frame.bytes whole
  pub are_bytes : AreBytes whole
  pub seconds : p.seconds ≡ frame.seconds
  pub fraction : p.fraction ≡ frame.fraction
  pub original : p.original ≡ 14 + length is_packet.spelling + next.frame.original
  pub captured : p.bytes ≡ take 262144 whole

-- the packets from a station on over the later ones: one for each station that is at another forwarder than the one before
abbrev pub HandsFrom : Captured → Station → List Station → List Captured → Type 0
HandsFrom frame s [] handed = handed ≡ []
HandsFrom frame s (next ∷ later) handed =
    ((next.forwarder ≡ s.forwarder) × HandsFrom frame next later handed)
    ⊎ ((next.forwarder ≢ s.forwarder) × (p : Captured) × (rest : List Captured) × (handed ≡ p ∷ rest) × IsHanded frame s next p × HandsFrom frame next later rest)

-- the packets of a walk's stations, in order
abbrev pub HandsOver : Captured → List Station → List Captured → Type 0
HandsOver frame [] handed = handed ≡ []
HandsOver frame (first ∷ later) handed = HandsFrom frame first later handed

-- the packets of the walk that a run on one thread makes with a frame, by the changes of routes that were made
pub record TracesFrame (setup : Parts) (changes : List RouteChange) (frame : Captured) (handed : List Captured) : Type 0 where
  pub outcome : Record
  pub single : SingleRecord setup changes frame outcome
  pub hands : HandsOver frame single.told.walk.stations handed

-- a frame has one walk on one thread, whatever tells it
abbrev pub OneWalkEach : Parts → List RouteChange → Type 0
OneWalkEach setup changes = (frame : Captured) (r q : Record) → (x : SingleRecord setup changes frame r) (y : SingleRecord setup changes frame q) → x.told.walk ≡ y.told.walk

-- What a round on one thread hands over, behind a history of segments: for each of its frames, in order, the packets of its walk over
-- the table after all segments of the round.
pub record SaysTraces (setup : Parts) (history : List Segment) (segments : List Segment) (frames : List Captured) (traces : List (List Captured)) : Type 0 where
  pub log : List Entry
  pub heard : Heard setup.local setup.peers (history ++ segments) log
  pub each : AllZip (λ frame handed. TracesFrame setup (changes_of log) frame handed) frames traces

-- the packets of some frames, in order of the frames and then of the turns
abbrev pub trace_packets : Form → List (List Captured) → List ℕ
trace_packets form traces = flat_map (packets form) traces

-- the whole trace: a file header of the input's form before them; nothing where there is no form
abbrev pub TraceOf : Option Form → List (List Captured) → List ℕ
TraceOf None traces = []
TraceOf (Some form) traces = file_head form ++ trace_packets form traces
