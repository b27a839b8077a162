-- The three outputs of a run, the egress, the lines and the replies, and what is put there. No public clause of a command stands on it.
use Rattle.std.proofs.Common.{inl, inr, ap}
use Rattle.std.specs.Prelude.{false, ◌≡◌, ◌⊎◌, ℕ, Bool, true, List, [], ◌++◌, length, Option, Some, None, Result, Ok, Err, OnOk}
use Rattle.sfc_desk.specs.declared.ports.Port.{Port}
use Rattle.sfc_desk.specs.declared.ports.Port.TheVariants as ports
use Rattle.sfc_desk.specs.Desks.{Shown, Files, Moves}
use Rattle.pcap_io.specs.declared.forms.Form.{Form}
use Rattle.pcap_io.specs.declared.frames.Captured.{Captured}
use Rattle.pcap_io.specs.Heads.{file_head}
use Rattle.control_files.specs.declared.segments.Segment.{Segment}
use Rattle.record_text.specs.declared.records.Record.{Record}
use Rattle.session_machine.specs.Groups.{Entry}
use Rattle.sfc_routes.specs.Entries.{Entries}
use Rattle.sfc_config.specs.Parts.{Parts}
use Rattle.rounds.specs.Says.{Says}
use Rattle.sfc_desk.specs.Ports.{is_input}
use Rattle.commands.specs.Outputs.{Outputs}
use Rattle.commands.specs.Fronts.{IsFront}
use Rattle.commands.specs.Pieces.{Waiting}
use Rattle.round_inputs.specs.declared.halts.Halt.{Halt}
use Rattle.round_inputs.specs.Halts.{Counts, IsPort}
use Rattle.round_inputs.specs.Taking.{round_of}
use Rattle.worker_run.specs.declared.runners.Runner.{Runner}
use Rattle.worker_run.specs.Batches.{Carried, frames_in, records_in}
use Rattle.worker_run.specs.Outputs.{EgressOf, LinesOf, RepliesOf, egress_packets, lines_from, packets_out}
use Rattle.worker_run.specs.Runners.{Stands}
use Rattle.file_runs.specs.declared.run_outputs.RunOutputs.{RunOutputs}
use Rattle.file_runs.specs.Means.{Means, NeverLong, WritesOutputs}

-- ---- outputs

-- what is put at the three outputs
pub record Texts : Type 0 where
  pub egress : List ℕ
  pub lines : List ℕ
  pub replies : List ℕ

abbrev pub texts_behind : Texts → Texts → Texts
texts_behind texts more = record { egress = texts.egress ++ more.egress; lines = texts.lines ++ more.lines; replies = texts.replies ++ more.replies }

abbrev pub nothing_more : Texts
nothing_more = record { egress = []; lines = []; replies = [] }

-- what the records said so far put there
abbrev pub texts_of : Parts → Option Form → List Captured → List Segment → List Entry → List Record → Texts
texts_of setup form passed history log said = record {
  egress = EgressOf setup form passed said;
  lines = LinesOf setup said;
  replies = RepliesOf history log;
}

-- the packets of a batch, in the form of the capture, where there is one
abbrev pub packets_in : Option Form → List Carried → List ℕ
packets_in None batch = []
packets_in (Some form) batch = packets_out form batch

-- the file header of the form, where there is one
abbrev pub head_in : Option Form → List ℕ
head_in None = []
head_in (Some form) = file_head form

abbrev pub only_head : Option Form → Texts
only_head form = record { egress = head_in form; lines = []; replies = [] }

-- what a round puts there
abbrev pub batch_texts : Option Form → Entries → ℕ → List Carried → List ℕ → Texts
batch_texts form roster place batch replies = record {
  egress = packets_in form batch;
  lines = lines_from roster place (records_in batch);
  replies = replies;
}

abbrev pub IsOutput : Port → Type 0
IsOutput port = (port ≡ ports.Egress) ⊎ (port ≡ ports.Lines) ⊎ (port ≡ ports.Replies)

pub output_no_input : (port : Port) → IsOutput port → is_input port ≡ false
output_no_input port (inl is) = ap is_input is
output_no_input port (inr (inl is)) = ap is_input is
output_no_input port (inr (inr is)) = ap is_input is

-- these texts at the three ports
abbrev pub outputs_of : Texts → Outputs
outputs_of texts ports.Egress = texts.egress
outputs_of texts ports.Lines = texts.lines
outputs_of texts ports.Replies = texts.replies
outputs_of texts _ = []

-- what waits at the three outputs
abbrev pub waits_of : RunOutputs → Outputs
waits_of outs = outputs_of (record { egress = outs.egress.bytes; lines = outs.lines.bytes; replies = outs.replies.bytes })

-- the means of a run that says records and puts an egress, lines and replies
abbrev pub run_means : Says Record → Parts → Means
run_means says setup = record {
  Said = Record;
  says = says;
  is_output = IsOutput;
  no_input = output_no_input;
  texts = λ form passed history log said. outputs_of (texts_of setup form passed history log said);
}

-- the bytes were put behind what the port took and what waits there, or a front of them was written
pub record PutsAt (tells : Bool) (own : Port) (then now : Port → Shown) (had has : Files) (old new : Waiting) (result : Result (Unit {0}) Halt) (bytes : List ℕ) : Type 0 where
  pub port : new.port ≡ own
  pub ok : tells ≡ true → OnOk result ((now own).written ++ new.bytes ≡ ((then own).written ++ old.bytes) ++ bytes)
  pub front : tells ≡ true → IsFront (now own).written (((then own).written ++ old.bytes) ++ bytes)
  pub counts : Counts (IsPort own) then now result
  pub never_long : NeverLong result
  pub moves : Moves tells own had has then now

-- the outputs are those of the three ports, which are bound
pub record OutsOpen (at : Port → Shown) (outs : RunOutputs) : Type 0 where
  pub egress_port : outs.egress.port ≡ ports.Egress
  pub lines_port : outs.lines.port ≡ ports.Lines
  pub replies_port : outs.replies.port ≡ ports.Replies
  pub egress_bound : (at ports.Egress).bound ≡ true
  pub lines_bound : (at ports.Lines).bound ≡ true
  pub replies_bound : (at ports.Replies).bound ≡ true

-- the two inputs and the three outputs are bound, and nothing stands at the outputs
pub record OutsBound (tells : Bool) (at : Port → Shown) : Type 0 where
  pub capture : (at ports.Capture).bound ≡ true
  pub control : (at ports.Control).bound ≡ true
  pub egress : (at ports.Egress).bound ≡ true
  pub lines : (at ports.Lines).bound ≡ true
  pub replies : (at ports.Replies).bound ≡ true
  pub egress_empty : tells ≡ true → (at ports.Egress).written ≡ []
  pub lines_empty : tells ≡ true → (at ports.Lines).written ≡ []
  pub replies_empty : tells ≡ true → (at ports.Replies).written ≡ []

-- what they took and what waits there are these texts
pub record OutsPut (at : Port → Shown) (outs : RunOutputs) (texts : Texts) : Type 0 where
  pub egress : (at ports.Egress).written ++ outs.egress.bytes ≡ texts.egress
  pub lines : (at ports.Lines).written ++ outs.lines.bytes ≡ texts.lines
  pub replies : (at ports.Replies).written ++ outs.replies.bytes ≡ texts.replies

-- what they took are fronts of these texts
pub record OutsFronts (at : Port → Shown) (texts : Texts) : Type 0 where
  pub egress : IsFront (at ports.Egress).written texts.egress
  pub lines : IsFront (at ports.Lines).written texts.lines
  pub replies : IsFront (at ports.Replies).written texts.replies

-- nothing waits at an output any more
pub record NothingWaits (outs : RunOutputs) : Type 0 where
  pub egress : outs.egress.bytes ≡ []
  pub lines : outs.lines.bytes ≡ []
  pub replies : outs.replies.bytes ≡ []

-- they took these texts
pub record OutsAll (at : Port → Shown) (texts : Texts) : Type 0 where
  pub egress : (at ports.Egress).written ≡ texts.egress
  pub lines : (at ports.Lines).written ≡ texts.lines
  pub replies : (at ports.Replies).written ≡ texts.replies

-- texts were put at the three outputs, or fronts of them were written
pub record PutsTexts (tells : Bool) (then now : Port → Shown) (had has : Files) (old new : RunOutputs) (result : Result (Unit {0}) Halt) (more : Texts) : Type 0 where
  pub ready : OutsOpen now new
  pub ok : tells ≡ true → (texts : Texts) → OutsPut then old texts → OnOk result (OutsPut now new (texts_behind texts more))
  pub front : tells ≡ true → (texts : Texts) → OutsPut then old texts → OutsFronts now (texts_behind texts more)
  pub counts : Counts IsOutput then now result
  pub never_long : NeverLong result
  pub writes : WritesOutputs IsOutput tells had has then now

-- what waited there was written, or fronts of it were
pub record OutsFinish (tells : Bool) (then now : Port → Shown) (had has : Files) (old : RunOutputs) (result : Result (Unit {0}) Halt) : Type 0 where
  pub ok : tells ≡ true → (texts : Texts) → OutsPut then old texts → OnOk result (OutsAll now texts)
  pub front : tells ≡ true → (texts : Texts) → OutsPut then old texts → OutsFronts now texts
  pub counts : Counts IsOutput then now result
  pub never_long : NeverLong result
  pub writes : WritesOutputs IsOutput tells had has then now

-- ---- a round

-- The round was run: the runner took the segments, what these are answered comes behind the replies so far, and the batch has as many
-- records as frames, which may be said of the round, and what is left of the frames that go out.
pub record Forwarded (says : Says Record) (runner : Runner) (history : List Segment) (log : List Entry) (segments : List Segment) (old new : List Carried) (replies : List ℕ) : Type 0 where
  pub now : List Entry
  pub stands : Stands runner (history ++ segments) (log ++ now)
  pub replies_are : RepliesOf (history ++ segments) (log ++ now) ≡ RepliesOf history log ++ replies
  pub each : length (records_in new) ≡ length (frames_in old)
  pub says_so : says history (round_of segments (frames_in old)) (records_in new)
  pub out : (form : Form) → egress_packets runner.setup form (frames_in old) (records_in new) ≡ packets_out form new

-- the round was run and put, or it was not run, or it was run and fronts of it were written
abbrev pub PutsRound : (says : Says Record) (tells : Bool) (then now : Port → Shown) (old new : RunOutputs) (runner : Runner) (form : Option Form) (place : ℕ) (history : List Segment) (log : List Entry) (segments : List Segment) (before after : List Carried)
    → Result (Unit {0}) Halt → Type 0
PutsRound says tells then now old new runner form place history log segments before after (Ok done) =
    (replies : List ℕ) × Forwarded says runner history log segments before after replies
    × (tells ≡ true → (texts : Texts) → OutsPut then old texts → OutsPut now new (texts_behind texts (batch_texts form runner.setup.roster place after replies)))
PutsRound says tells then now old new runner form place history log segments before after (Err halt) =
    tells ≡ true → (texts : Texts) → OutsPut then old texts
    → OutsFronts now texts
    ⊎ ((replies : List ℕ) × Forwarded says runner history log segments before after replies × OutsFronts now (texts_behind texts (batch_texts form runner.setup.roster place after replies)))
