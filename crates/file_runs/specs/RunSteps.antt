-- Where a run stands between its steps, whatever a command says of its rounds. No public clause of a command stands on it.
use Rattle.std.specs.Prelude.{◌≡◌, ◌≢◌, ◌⊎◌, ℕ, ◌<◌, ◌^◌, Bool, true, List, [], ◌∷◌, ◌++◌, length, slice_index_or, Option, Some, None}
use Rattle.sfc_desk.specs.declared.ports.Port.{Port}
use Rattle.sfc_desk.specs.declared.ports.Port.TheVariants as ports
use Rattle.sfc_desk.specs.Desks.{Shown, Files, Rose}
use Rattle.pcap_io.specs.declared.forms.Form.{Form}
use Rattle.pcap_io.specs.declared.frames.Captured.{Captured}
use Rattle.pcap_io.specs.Refusals.{told as capture_told}
use Rattle.control_files.specs.declared.segments.Segment.{Segment}
use Rattle.control_files.specs.Refusals.{told as control_told}
use Rattle.control_files.specs.Segments.{numbers}
use Rattle.session_machine.specs.Groups.{Entry}
use Rattle.session_machine.specs.Peers.{AllHold}
use Rattle.sfc_config.specs.Parts.{Parts, AreParts}
use Rattle.rounds.specs.declared.ends.RunEnd.{RunEnd}
use Rattle.rounds.specs.declared.ends.RunEnd.TheVariants as ends
use Rattle.rounds.specs.Says.{Says, IsOne}
use Rattle.rounds.specs.Views.{Gives, Inputs, IsNext, IsSound, Leads, Told, View, place_of, view_at_first}
use Rattle.commands.specs.declared.statuses.Status.{Status}
use Rattle.commands.specs.declared.statuses.Status.TheVariants as status
use Rattle.commands.specs.Outputs.{Outputs, none_put}
use Rattle.commands.specs.Pieces.{NoneBound, SameCounts}
use Rattle.commands.specs.Places.{Place, opens}
use Rattle.control_histories.specs.Logs.{AreOfPeers, Heard}
use Rattle.round_inputs.specs.declared.halts.Halt.{Halt}
use Rattle.round_inputs.specs.declared.halts.Halt.TheVariants as halts
use Rattle.round_inputs.specs.Filling.{LendsNext}
use Rattle.round_inputs.specs.Halts.{IsRead, ReadsBoth}
use Rattle.round_inputs.specs.Taking.{AreInputs, Ended, EndsAt, HoldsAt, IsFew, left_of, round_of}
use Rattle.worker_run.specs.Batches.{frames_in}
use Rattle.worker_run.specs.Controls.{bytes_in}
use Rattle.worker_run.specs.Runners.{Stands}
use Rattle.file_runs.specs.declared.run_words.RunWords.{RunWords}
use Rattle.file_runs.specs.declared.run_steps.FileRun.{FileRun}
use Rattle.file_runs.specs.FileRuns.{RunFiles, WasReadTo}
use Rattle.file_runs.specs.Means.{AreOpen, IsOfRun, Means, Put, PutAll, PutFronts}

-- ---- words

-- what the words say of the files, as the program keeps it
abbrev pub files_of : RunWords → RunFiles
files_of said = record {
  setup = said.setup.now;
  capture = said.capture.now;
  control = said.control.now;
  egress = said.egress.now;
  lines = said.lines.now;
  replies = said.replies.now;
}

-- the six words behind the first
abbrev pub named_by : List (List ℕ) → RunFiles
named_by words = record {
  setup = slice_index_or words 1 [];
  capture = slice_index_or words 2 [];
  control = slice_index_or words 3 [];
  egress = slice_index_or words 4 [];
  lines = slice_index_or words 5 [];
  replies = slice_index_or words 6 [];
}

-- ---- ports

-- the ports behind which the outputs are bound, and the outputs
abbrev pub input_ports : RunFiles → List Place
input_ports files = opens ports.Setup files.setup ∷ opens ports.Capture files.capture ∷ opens ports.Control files.control ∷ []

abbrev pub output_ports : RunFiles → List Place
output_ports files = opens ports.Egress files.egress ∷ opens ports.Lines files.lines ∷ opens ports.Replies files.replies ∷ []

-- the inputs give what the files under their names hold
pub record HoldsInputs (files : RunFiles) (held : Files) (at : Port → Shown) : Type 0 where
  pub capture : held files.capture ≡ Some (at ports.Capture).left
  pub control : held files.control ≡ Some (at ports.Control).left

-- ---- where a run stands

-- what the two bound inputs have still to give
abbrev pub capture_of : (Port → Shown) → List ℕ
capture_of then = (then ports.Capture).left

abbrev pub control_of : (Port → Shown) → List ℕ
control_of then = (then ports.Control).left

-- the view behind these frames and segments
abbrev pub view_of : {R : Type 0} → Inputs → List Captured → List Segment → List R → View R
view_of whole passed history said = record { passed = passed; history = history; said = said; left = left_of whole passed history }

-- what was said up to the view goes on with what a whole run says of the rest
pub record Rest {R : Type 0} (says : Says R) (v : View R) (all : Told R) : Type 0 where
  pub said : List R
  pub gives : Gives says v (record { frames = all.frames; segments = all.segments; said = said })

-- From the beginning on the run comes to what it comes to from this view on, and a whole run goes on from here: with what it says of the
-- rest and, where one thing is said of a round, as the same run.
pub record Reached {R : Type 0} (says : Says R) (Fits : List Segment → Type 0) (whole : Inputs) (v : View R) : Type 0 where
  pub leads : Leads says (view_at_first whole) v
  pub rests : (all : Told R) → Gives says (view_at_first whole) all → Rest says v all
  pub goes : IsOne says Fits → (all : Told R) → Gives says (view_at_first whole) all → Gives says v all
  pub sound : IsSound (place_of v) v.left.segments v.left.control_fault

-- both inputs were looked at, and the runner stands for no segment
pub record Begun (setup : Parts) (tells : Bool) (had has : Files) (then now : Port → Shown) (run : FileRun) : Type 0 where
  pub reads : ReadsBoth tells had has then now
  pub quiet : SameCounts then now
  pub parts : AreParts setup
  pub setup_is : run.runner.setup ≡ setup
  pub stands : Stands run.runner [] []
  pub hold : AllHold 0 run.runner.control.sessions.sessions.items
  pub holds : HoldsAt tells (capture_of then) (control_of then) now run.inputs [] []
  pub form_is : run.form ≡ run.inputs.capture.form
  pub form_known : tells ≡ true → (form : Option Form) (whole : Inputs) → AreInputs (capture_of then) (control_of then) form run.inputs.control.peers whole → form ≡ run.inputs.capture.form
  pub few : IsFew run.inputs
  pub lends : LendsNext run.inputs.frame run.inputs.capture
  pub peers : run.inputs.control.peers ≡ numbers setup.peers

-- nothing was bound, no count rose, and nothing was touched but the inputs and the outputs
pub record Standing (m : Means) (setup : Parts) (tells : Bool) (then now : Port → Shown) (run : FileRun) : Type 0 where
  pub none_bound : NoneBound tells then now
  pub others : (port : Port) → (IsOfRun m port → ⊥) → now port ≡ then port
  pub counts : SameCounts then now
  pub capture_bound : (now ports.Capture).bound ≡ true
  pub control_bound : (now ports.Control).bound ≡ true
  pub ready : AreOpen m now
  pub parts : AreParts setup
  pub setup_is : run.runner.setup ≡ setup
  pub peers : run.inputs.control.peers ≡ numbers setup.peers
  pub form_is : tells ≡ true → (form : Option Form) (whole : Inputs) → AreInputs (capture_of then) (control_of then) form (numbers setup.peers) whole → form ≡ run.form

-- the runner took these segments, these records were said of these frames, and the outputs have what they put there
pub record Said (m : Means) (setup : Parts) (tells : Bool) (then now : Port → Shown) (waits : Outputs) (run : FileRun) (passed : List Captured) (history : List Segment) (log : List Entry) (said : List m.Said) : Type 0 where
  pub stands : Stands run.runner history log
  pub of_peers : AreOfPeers setup.peers history
  pub hold : AllHold (bytes_in history) run.runner.control.sessions.sessions.items
  pub each : length said ≡ length passed
  pub reached : tells ≡ true → (whole : Inputs) → AreInputs (capture_of then) (control_of then) run.form (numbers setup.peers) whole
      → Reached m.says (AreOfPeers setup.peers) whole (view_of whole passed history said)
  pub put : tells ≡ true → Put m now waits (m.texts run.form passed history log said)

-- between two rounds
pub record Along (m : Means) (setup : Parts) (tells : Bool) (then now : Port → Shown) (waits : Outputs) (run : FileRun) : Type 0 where
  pub standing : Standing m setup tells then now run
  pub few : IsFew run.inputs
  pub lends : LendsNext run.inputs.frame run.inputs.capture
  pub passed : List Captured
  pub history : List Segment
  pub log : List Entry
  pub said : List m.Said
  pub holds : HoldsAt tells (capture_of then) (control_of then) now run.inputs passed history
  pub is_said : Said m setup tells then now waits run passed history log said

-- a round was taken, and not run yet
pub record Taken (m : Means) (setup : Parts) (tells : Bool) (then now : Port → Shown) (waits : Outputs) (run : FileRun) (place : ℕ) : Type 0 where
  pub standing : Standing m setup tells then now run
  pub few : IsFew run.inputs
  pub lends : LendsNext run.inputs.frame run.inputs.capture
  pub passed : List Captured
  pub history : List Segment
  pub log : List Entry
  pub said : List m.Said
  pub place_is : place ≡ length passed
  pub holds : HoldsAt tells (capture_of then) (control_of then) now run.inputs (passed ++ frames_in run.frames.batch) (history ++ run.group)
  pub next : tells ≡ true → (form : Option Form) (whole : Inputs) → AreInputs (capture_of then) (control_of then) form (numbers setup.peers) whole
      → IsNext (length passed) (left_of whole passed history) (round_of run.group (frames_in run.frames.batch))
  pub is_said : Said m setup tells then now waits run passed history log said

-- the run ends
pub record Over (m : Means) (setup : Parts) (tells : Bool) (then now : Port → Shown) (waits : Outputs) (run : FileRun) (end : RunEnd) : Type 0 where
  pub standing : Standing m setup tells then now run
  pub passed : List Captured
  pub history : List Segment
  pub log : List Entry
  pub said : List m.Said
  pub ended : Ended tells (capture_of then) (control_of then) now run.inputs passed history end
  pub is_said : Said m setup tells then now waits run passed history log said

-- ---- what each answer says of the bound inputs

-- what was said up to here, over whatever a reader of both files gets
pub record SaidSo (m : Means) (setup : Parts) (capture control : List ℕ) (form : Option Form) (passed : List Captured) (history : List Segment) (log : List Entry) (said : List m.Said) : Type 0 where
  pub parts : AreParts setup
  pub of_peers : AreOfPeers setup.peers history
  pub heard : Heard setup.local setup.peers history log
  pub each : length said ≡ length passed
  pub form_is : (other : Option Form) (whole : Inputs) → AreInputs capture control other (numbers setup.peers) whole → other ≡ form
  pub reached : (whole : Inputs) → AreInputs capture control form (numbers setup.peers) whole → Reached m.says (AreOfPeers setup.peers) whole (view_of whole passed history said)

-- the outputs took fronts of what was said
pub record StoppedAt (m : Means) (setup : Parts) (then now : Port → Shown) : Type 0 where
  pub form : Option Form
  pub passed : List Captured
  pub history : List Segment
  pub log : List Entry
  pub said : List m.Said
  pub so : SaidSo m setup (capture_of then) (control_of then) form passed history log said
  pub fronts : PutFronts m now (m.texts form passed history log said)

-- or nothing was written
abbrev pub Stopped : Means → Parts → (Port → Shown) → (Port → Shown) → Type 0
Stopped m setup then now = PutAll m now none_put ⊎ StoppedAt m setup then now

-- the outputs took all that was said, and the run ends here
pub record EndedAt (m : Means) (setup : Parts) (then now : Port → Shown) (end : RunEnd) : Type 0 where
  pub form : Option Form
  pub passed : List Captured
  pub history : List Segment
  pub log : List Entry
  pub said : List m.Said
  pub so : SaidSo m setup (capture_of then) (control_of then) form passed history log said
  pub ends_so : (other : Option Form) (whole : Inputs) → AreInputs (capture_of then) (control_of then) other (numbers setup.peers) whole → EndsAt (length passed) (left_of whole passed history) end
  pub read : WasReadTo (capture_of then) (control_of then) now end
  pub whole : end ≡ ends.Whole → AreInputs (capture_of then) (control_of then) form (numbers setup.peers) (record { frames = passed; capture_fault = None; segments = history; control_fault = None })
  pub all : PutAll m now (m.texts form passed history log said)

-- the status of a run that halts
abbrev pub status_of_halt : Halt → Status
status_of_halt (halts.File port) = status.File port
status_of_halt (halts.Long port) = status.Long port
status_of_halt halts.OutOfMemory = status.Memory

abbrev pub StreamWorks : Means → Parts → Bool → (Port → Shown) → (Port → Shown) → Status → Type 0
StreamWorks m setup tells then now status.Ok = tells ≡ true → EndedAt m setup then now ends.Whole
StreamWorks m setup tells then now (status.Capture place reason) = tells ≡ true → EndedAt m setup then now (ends.Capture (capture_told place reason))
StreamWorks m setup tells then now (status.Control place reason) = tells ≡ true → EndedAt m setup then now (ends.Control (control_told place reason))
StreamWorks m setup tells then now (status.Long port) = IsRead port × (tells ≡ true → (2 ^ 40 < length (then port).left) × Stopped m setup then now)
StreamWorks m setup tells then now (status.File port) = (IsOfRun m port × Rose (then port) (now port)) × (tells ≡ true → Stopped m setup then now)
StreamWorks m setup tells then now status.Memory = tells ≡ true → Stopped m setup then now
StreamWorks m setup tells then now _ = ⊥

pub record StreamSays (m : Means) (setup : Parts) (tells : Bool) (then now : Port → Shown) (answer : Status) : Type 0 where
  pub works : StreamWorks m setup tells then now answer
  pub none_bound : NoneBound tells then now
  pub counts : (port : Port) → answer ≢ status.File port → (now port).faults ≡ (then port).faults
  pub others : (port : Port) → (IsOfRun m port → ⊥) → now port ≡ then port

-- a run that halts says the same as its status
abbrev pub HaltSays : Means → Parts → Bool → (Port → Shown) → (Port → Shown) → Halt → Type 0
HaltSays m setup tells then now halt = StreamSays m setup tells then now (status_of_halt halt)
