-- A command that runs over a capture and a control file, on however many threads: its files, and what each answer says.
use Rattle.std.specs.Prelude.{◌≡◌, ◌≢◌, ◌⊎◌, ℕ, ◌^◌, ◌<◌, ◌≤◌, Bool, true, List, [], ◌∷◌, Option, Some, None, length}
use Rattle.sfc_desk.specs.declared.ports.Port.{Port}
use Rattle.sfc_desk.specs.declared.ports.Port.TheVariants as ports
use Rattle.sfc_desk.specs.Desks.{Shown, Files}
use Rattle.pcap_io.specs.declared.forms.Form.{Form}
use Rattle.pcap_io.specs.declared.reasons.Refusal.{Refusal as CaptureRefusal}
use Rattle.pcap_io.specs.declared.reasons.CaptureReason.TheVariants as capture_reasons
use Rattle.pcap_io.specs.Refusals.{told as capture_told}
use Rattle.control_files.specs.declared.reasons.Refusal.{Refusal as ControlRefusal}
use Rattle.control_files.specs.declared.reasons.ControlReason.TheVariants as control_reasons
use Rattle.control_files.specs.Refusals.{told as control_told}
use Rattle.control_files.specs.Segments.{numbers}
use Rattle.sfc_config.specs.Parts.{Parts}
use Rattle.rounds.specs.declared.ends.RunEnd.{RunEnd}
use Rattle.rounds.specs.declared.ends.RunEnd.TheVariants as ends
use Rattle.rounds.specs.Views.{Inputs, ending}
use Rattle.commands.specs.declared.statuses.Status.{Status}
use Rattle.commands.specs.declared.statuses.Status.TheVariants as status
use Rattle.commands.specs.Outputs.{Outputs, TookAll, TookFrontsOfOne, none_put}
use Rattle.commands.specs.Places.{Place, opens, OpensAll}
use Rattle.setup_inputs.specs.Setups.{RunsOnSetup, SetupAsks}
use Rattle.round_inputs.specs.Ahead.{FrameShort, SegmentShort}
use Rattle.round_inputs.specs.Halts.{IsRead}
use Rattle.round_inputs.specs.Taking.{AreInputs}
use Rattle.file_runs.specs.RunTexts.{RunOf, RunWrites}

-- ---- words and ports

-- the six files of a run
pub record RunFiles : Type 0 where
  pub setup : List ℕ
  pub capture : List ℕ
  pub control : List ℕ
  pub egress : List ℕ
  pub lines : List ℕ
  pub replies : List ℕ

-- the name is that of none of the inputs
abbrev pub IsNoInput : RunFiles → List ℕ → Type 0
IsNoInput files name = (name ≢ files.setup) × (name ≢ files.capture) × (name ≢ files.control)

-- names that are not empty, and no output has the name of another file
pub record AreRunFiles (files : RunFiles) : Type 0 where
  pub of_setup : files.setup ≢ []
  pub of_capture : files.capture ≢ []
  pub of_control : files.control ≢ []
  pub of_egress : files.egress ≢ []
  pub of_lines : files.lines ≢ []
  pub of_replies : files.replies ≢ []
  pub egress_apart : IsNoInput files files.egress
  pub lines_apart : IsNoInput files files.lines
  pub replies_apart : IsNoInput files files.replies
  pub lines_no_egress : files.lines ≢ files.egress
  pub replies_no_egress : files.replies ≢ files.egress
  pub replies_no_lines : files.replies ≢ files.lines

-- the ports in the order of their binds: the setup, which is read before the others are bound, the two inputs, and the outputs
abbrev pub run_ports : RunFiles → List Place
run_ports files =
    opens ports.Setup files.setup ∷ opens ports.Capture files.capture ∷ opens ports.Control files.control
    ∷ opens ports.Egress files.egress ∷ opens ports.Lines files.lines ∷ opens ports.Replies files.replies ∷ []

-- ---- what is written, where the setup is this one

-- the files under the names of both inputs
pub record HaveInputs (files : RunFiles) (held : Files) : Type 0 where
  pub capture : List ℕ
  pub control : List ℕ
  pub capture_there : held files.capture ≡ Some capture
  pub control_there : held files.control ≡ Some control

-- which lists of records may be a run's, by its setup
abbrev pub RunsOf : Type 1
RunsOf = Parts → RunOf

-- what a run writes for its files, and how it ends
pub record FileWrites (Is : RunsOf) (files : RunFiles) (setup : Parts) (held : Files) (end : RunEnd) (out : Outputs) : Type 0 where
  pub there : HaveInputs files held
  pub writes : RunWrites (Is setup) setup there.capture there.control end out

-- however it ends
abbrev pub FileWritesSome : RunsOf → RunFiles → Parts → Files → Outputs → Type 0
FileWritesSome Is files setup held out = (end : RunEnd) × FileWrites Is files setup held end out

-- what was read of both files where the run ends: all of both, which are within their limits; or up to what is refused. What ends
-- short was read to its end, within the limit.
abbrev pub WasReadTo : List ℕ → List ℕ → (Port → Shown) → RunEnd → Type 0
WasReadTo capture control now ends.Whole =
    (length capture ≤ 2 ^ 40) × (length control ≤ 2 ^ 40) × ((now ports.Capture).left ≡ []) × ((now ports.Control).left ≡ [])
WasReadTo capture control now (ends.Capture r) = FrameShort r capture
WasReadTo capture control now (ends.Control r) = SegmentShort r control

-- the outputs took all that is written for the inputs that count
pub record FileEnds (Is : RunsOf) (files : RunFiles) (setup : Parts) (held : Files) (end : RunEnd) (then now : Port → Shown) : Type 0 where
  pub out : Outputs
  pub writes : FileWrites Is files setup held end out
  pub read : WasReadTo writes.there.capture writes.there.control now end
  pub took : TookAll (run_ports files) then now out

-- One of the files is refused, and the outputs took all that is written for the inputs that count. The other file need not have been
-- read to its end, so this is said of whatever a reader of both files gets; every two lists of bytes have such a reading.
pub record FileRefused (Is : RunsOf) (files : RunFiles) (setup : Parts) (held : Files) (end : RunEnd) (then now : Port → Shown) : Type 0 where
  pub there : HaveInputs files held
  pub ends : (form : Option Form) (whole : Inputs) → AreInputs there.capture there.control form (numbers setup.peers) whole → FileEnds Is files setup held end then now

-- what the outputs of a row hold of what is written where the call stops before its end
abbrev pub Stopping : Type 1
Stopping = (Outputs → Type 0) → List Place → (Port → Shown) → (Port → Shown) → Type 0

-- What the outputs took are fronts of ONE run that the command writes for its inputs, where they have any, or nothing. It is for a command
-- with more than one run, which stops before it knows that its inputs have one; every two files have one.
abbrev pub TookFrontsOfSome : Stopping
TookFrontsOfSome Writes row then now = TookAll row then now none_put ⊎ ((all : Outputs) → Writes all → TookFrontsOfOne Writes row then now)

abbrev pub FileFronts : RunsOf → Stopping → RunFiles → Parts → Files → (Port → Shown) → (Port → Shown) → Type 0
FileFronts Is Stops files setup held then now = Stops (FileWritesSome Is files setup held) (run_ports files) then now

-- one of both files has more bytes than the limit
abbrev pub input_at : List ℕ → List ℕ → Port → List ℕ
input_at capture control ports.Capture = capture
input_at capture control _ = control

pub record HasLongInput (files : RunFiles) (held : Files) (port : Port) : Type 0 where
  pub there : HaveInputs files held
  pub past : 2 ^ 40 < length (input_at there.capture there.control port)

-- a file is there under the capture's name
abbrev pub HasCapture : RunFiles → Files → Type 0
HasCapture files held = (capture : List ℕ) × (held files.capture ≡ Some capture)

-- the port is one of those behind the setup
abbrev pub IsRunPort : Port → Type 0
IsRunPort port = IsRead port ⊎ (port ≡ ports.Egress) ⊎ (port ≡ ports.Lines) ⊎ (port ≡ ports.Replies)

-- what each answer says that comes behind the setup; where another port than Capture is told, the capture was there
abbrev pub FileWorks : RunsOf → Stopping → RunFiles → Parts → Bool → Files → (Port → Shown) → (Port → Shown) → Status → Type 0
FileWorks Is Stops files setup tells held then now status.Ok =
    OpensAll (run_ports files) tells then now × (tells ≡ true → FileEnds Is files setup held ends.Whole then now)
FileWorks Is Stops files setup tells held then now (status.Capture place reason) =
    OpensAll (run_ports files) tells then now × (tells ≡ true → FileRefused Is files setup held (ends.Capture (capture_told place reason)) then now)
FileWorks Is Stops files setup tells held then now (status.Control place reason) =
    OpensAll (run_ports files) tells then now × (tells ≡ true → FileRefused Is files setup held (ends.Control (control_told place reason)) then now)
FileWorks Is Stops files setup tells held then now (status.Long port) =
    IsRead port × OpensAll (run_ports files) tells then now × (tells ≡ true → HasLongInput files held port × FileFronts Is Stops files setup held then now)
FileWorks Is Stops files setup tells held then now (status.File port) =
    IsRunPort port × (port ≢ ports.Capture → tells ≡ true → HasCapture files held) × (tells ≡ true → FileFronts Is Stops files setup held then now)
FileWorks Is Stops files setup tells held then now status.Memory = tells ≡ true → FileFronts Is Stops files setup held then now
FileWorks Is Stops files setup tells held then now _ = ⊥

-- what each answer says, where the words are these
abbrev pub FileAnswers : RunsOf → Stopping → RunFiles → Bool → Files → (Port → Shown) → (Port → Shown) → Status → Type 0
FileAnswers Is Stops files tells held then now answer =
    RunsOnSetup files.setup (λ setup. FileWorks Is Stops files setup tells held then now answer) tells held then now answer

-- ---- what the files ask for

-- the answer of a run that ends so
abbrev pub status_of_end : RunEnd → Status
status_of_end ends.Whole = status.Ok
status_of_end (ends.Capture r) = status.Capture r.place r.reason
status_of_end (ends.Control r) = status.Control r.place r.reason

-- both files are within their limits
pub record AsksTheEnd (capture control : List ℕ) (whole : Inputs) (answer : Status) : Type 0 where
  pub capture_within : length capture ≤ 2 ^ 40
  pub control_within : length control ≤ 2 ^ 40
  pub answer_is : answer ≡ status_of_end (ending whole)

-- A file of which no field is refused is longer than its limit, and the other one is whole and within. Of a file with a field that
-- is refused the run may end before the limit is crossed or not, as the pieces come.
pub record CaptureIsLong (capture control : List ℕ) (whole : Inputs) (answer : Status) : Type 0 where
  pub past : 2 ^ 40 < length capture
  pub unrefused : (r : CaptureRefusal) → whole.capture_fault ≡ Some r → r.reason ≡ capture_reasons.Short
  pub control_within : length control ≤ 2 ^ 40
  pub control_whole : whole.control_fault ≡ None
  pub answer_is : answer ≡ status.Long ports.Capture

pub record ControlIsLong (capture control : List ℕ) (whole : Inputs) (answer : Status) : Type 0 where
  pub past : 2 ^ 40 < length control
  pub unrefused : (r : ControlRefusal) → whole.control_fault ≡ Some r → r.reason ≡ control_reasons.Short
  pub capture_within : length capture ≤ 2 ^ 40
  pub capture_whole : whole.capture_fault ≡ None
  pub answer_is : answer ≡ status.Long ports.Control

-- what both files ask for, of which a reader gets this
pub record BothAsk (setup : Parts) (capture control : List ℕ) (answer : Status) : Type 0 where
  pub form : Option Form
  pub whole : Inputs
  pub read : AreInputs capture control form (numbers setup.peers) whole
  pub asks : AsksTheEnd capture control whole answer ⊎ CaptureIsLong capture control whole answer ⊎ ControlIsLong capture control whole answer

-- the capture is bound first
abbrev pub InputsAsk : Parts → Option (List ℕ) → Option (List ℕ) → Status → Type 0
InputsAsk setup None control answer = answer ≡ status.File ports.Capture
InputsAsk setup (Some capture) None answer = answer ≡ status.File ports.Control
InputsAsk setup (Some capture) (Some control) answer = BothAsk setup capture control answer

abbrev pub FileWants : RunFiles → Files → Status → Type 0
FileWants files held answer = SetupAsks (λ setup asked. InputsAsk setup (held files.capture) (held files.control) asked) (held files.setup) answer
