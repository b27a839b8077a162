-- What records put at the outputs.
use Rattle.std.specs.Prelude.{ℕ, ◌+◌, Bool, true, false, if◌then◌else◌, List, [], ◌∷◌, ◌++◌, Option, Some, None}
use Rattle.std.specs.List.{flat_map}
use Rattle.control_files.specs.declared.segments.Segment.{Segment}
use Rattle.control_histories.specs.Replies.{reply_bytes}
use Rattle.net_frames.specs.Captured.{Captured as Framed}
use Rattle.pcap_io.specs.declared.forms.Form.{Form}
use Rattle.pcap_io.specs.declared.frames.Captured.{Captured}
use Rattle.pcap_io.specs.Captures.{packet}
use Rattle.pcap_io.specs.Egress.{Leaving, egress_of, packets_left}
use Rattle.record_text.specs.declared.records.End.{End}
use Rattle.record_text.specs.declared.records.End.TheVariants.{Egress, Bypass, Drop}
use Rattle.record_text.specs.declared.records.Record.{Record}
use Rattle.record_text.specs.Lines.{ended_line}
use Rattle.service_functions.specs.declared.functions.Function.{Function}
use Rattle.service_functions.specs.Serving.{Through}
use Rattle.session_machine.specs.Groups.{Entry}
use Rattle.sfc_config.specs.Parts.{Parts}
use Rattle.sfc_routes.specs.Entries.{Entries}
use Rattle.forwarder.specs.Walks.{functions_of}
use Rattle.forwarder.specs.Workspaces.{taken_in}
use Rattle.forwarder.specs.Records.{numbers}
use Rattle.worker_run.specs.Batches.{Carried}

-- ---- egress

-- the frame goes out
abbrev pub goes_out : End → Bool
goes_out Egress = true
goes_out Bypass = true
goes_out (Drop reason) = false

-- the frame behind the instances that it visited, without the header that brought it there
abbrev pub behind_visits : List Function → Captured → Record → Framed
behind_visits functions frame r = Through functions (numbers r.visits.items) (taken_in frame.bytes frame.original)

abbrev pub leaving : Framed → Leaving
leaving frame = record { original = frame.original; bytes = frame.bytes }

-- what a frame leaves in the egress: where its end is one that goes out, what the instances that it visited made of it
abbrev pub left_at : List Function → Captured → Record → Option Leaving
left_at functions frame r = if goes_out r.end then Some (leaving (behind_visits functions frame r)) else None

abbrev pub left_by : List Function → List Captured → List Record → List (Option Leaving)
left_by functions [] records = []
left_by functions (frame ∷ frames) [] = []
left_by functions (frame ∷ frames) (r ∷ records) = left_at functions frame r ∷ left_by functions frames records

-- the packets of the frames that go out, in order, with their times as read
abbrev pub egress_packets : Parts → Form → List Captured → List Record → List ℕ
egress_packets setup form frames records = packets_left form frames (left_by (functions_of setup.instances) frames records)

-- the whole egress: a file header of the input's form before them; nothing where there is no form
abbrev pub EgressOf : Parts → Option Form → List Captured → List Record → List ℕ
EgressOf setup form frames records = egress_of form frames (left_by (functions_of setup.instances) frames records)

-- the packets of the frames of a batch that go out, as the batch has them
abbrev pub packet_out : Form → Carried → List ℕ
packet_out form c = if goes_out c.outcome.end then packet form c.frame else []

abbrev pub packets_out : Form → List Carried → List ℕ
packets_out form batch = flat_map (packet_out form) batch

-- ---- lines

-- a line for each record, numbered from a place on
abbrev pub lines_from : Entries → ℕ → List Record → List ℕ
lines_from roster place [] = []
lines_from roster place (r ∷ records) = ended_line roster (place, r) ++ lines_from roster (place + 1) records

abbrev pub LinesOf : Parts → List Record → List ℕ
LinesOf setup records = lines_from setup.roster 0 records

-- ---- replies

-- a segment for each event that sent bytes, as they stand in a file
abbrev pub RepliesOf : List Segment → List Entry → List ℕ
RepliesOf segments log = reply_bytes segments log
