-- `paths SETUP CONTROL`: every version of the table of service paths that the segments of a control file make.
use Rattle.std.specs.Prelude.{◌≡◌, ◌≢◌, ◌⊎◌, ℕ, ◌^◌, ◌<◌, ◌≤◌, Bool, true, List, [], ◌∷◌, Option, Some, None, length, codes}
use Rattle.sfc_desk.specs.declared.ports.Port.{Port}
use Rattle.sfc_desk.specs.declared.ports.Port.TheVariants as ports
use Rattle.sfc_desk.specs.Desks.{Shown, Files}
use Rattle.control_files.specs.declared.segments.Segment.{Segment}
use Rattle.control_files.specs.declared.reasons.Refusal.{Refusal}
use Rattle.control_files.specs.declared.reasons.ControlReason.TheVariants as reasons
use Rattle.control_files.specs.Refusals.{told}
use Rattle.control_files.specs.Segments.{numbers}
use Rattle.control_files.specs.Reads.{ReadsControl}
use Rattle.sfc_config.specs.Parts.{Parts}
use Rattle.commands.specs.declared.statuses.Status.{Status}
use Rattle.commands.specs.declared.statuses.Status.TheVariants as status
use Rattle.commands.specs.Commands.{CommandCall}
use Rattle.commands.specs.Outputs.{Outputs, TookAll, TookFrontsOfEach}
use Rattle.commands.specs.Places.{Place, opens, reports, OpensAll}
use Rattle.setup_inputs.specs.Setups.{RunsOnSetup, SetupAsks}
use Rattle.paths_command.specs.VersionTexts.{Writes}

-- what the words say
pub record Paths : Type 0 where
  pub setup : List ℕ
  pub control : List ℕ

-- the words are `paths` and two file names, which are not empty
pub record IsPaths (words : List (List ℕ)) (paths : Paths) : Type 0 where
  pub spelled : words ≡ codes "paths" ∷ paths.setup ∷ paths.control ∷ []
  pub of_setup : paths.setup ≢ []
  pub of_control : paths.control ≢ []

-- the ports: the setup, which is read before the control file is bound, and Report
abbrev pub paths_ports : Paths → List Place
paths_ports paths = opens ports.Setup paths.setup ∷ opens ports.Control paths.control ∷ reports ∷ []

-- ---- what is written, where the setup is this one

-- what `paths` writes for its control file, up to where that is refused, if it is
pub record PathsWrites (paths : Paths) (setup : Parts) (held : Files) (stop : Option Refusal) (out : Outputs) : Type 0 where
  pub input : List ℕ
  pub there : held paths.control ≡ Some input
  pub writes : Writes setup input stop (out ports.Report)

-- what it writes, whether that is refused or not
abbrev pub PathsWritesSome : Paths → Parts → Files → Outputs → Type 0
PathsWritesSome paths setup held out = (stop : Option Refusal) × PathsWrites paths setup held stop out

-- Report took every version, and the control file was read to its end and is within its limit
pub record PathsEnds (paths : Paths) (setup : Parts) (held : Files) (then now : Port → Shown) : Type 0 where
  pub out : Outputs
  pub writes : PathsWrites paths setup held None out
  pub within : length writes.input ≤ 2 ^ 40
  pub read_whole : (now ports.Control).left ≡ []
  pub took : TookAll (paths_ports paths) then now out

-- The control file is refused, and Report took every version that the segments before make. What ends short was read to its
-- end, within the limit; after another refusal nothing more was read.
pub record PathsRefused (paths : Paths) (setup : Parts) (held : Files) (r : Refusal) (then now : Port → Shown) : Type 0 where
  pub out : Outputs
  pub writes : PathsWrites paths setup held (Some r) out
  pub short : r.reason ≡ reasons.Short → length writes.input ≤ 2 ^ 40
  pub took : TookAll (paths_ports paths) then now out

-- Report took a front of every text that is written for the control file, of which there is one (`one_text_is_written`), or nothing.
abbrev pub PathsFronts : Paths → Parts → Files → (Port → Shown) → (Port → Shown) → Type 0
PathsFronts paths setup held then now = TookFrontsOfEach (PathsWritesSome paths setup held) (paths_ports paths) then now

-- the file under the control file's name has more bytes than the limit
pub record HasLongControl (paths : Paths) (held : Files) : Type 0 where
  pub input : List ℕ
  pub there : held paths.control ≡ Some input
  pub past : 2 ^ 40 < length input

-- what each answer says that comes behind the setup
abbrev pub PathsWorks : Paths → Parts → Bool → Files → (Port → Shown) → (Port → Shown) → Status → Type 0
PathsWorks paths setup tells held then now status.Ok =
    OpensAll (paths_ports paths) tells then now × (tells ≡ true → PathsEnds paths setup held then now)
PathsWorks paths setup tells held then now (status.Control place reason) =
    OpensAll (paths_ports paths) tells then now × (tells ≡ true → PathsRefused paths setup held (told place reason) then now)
PathsWorks paths setup tells held then now (status.Long port) =
    (port ≡ ports.Control) × OpensAll (paths_ports paths) tells then now
    × (tells ≡ true → HasLongControl paths held × PathsFronts paths setup held then now)
PathsWorks paths setup tells held then now (status.File port) =
    ((port ≡ ports.Control) ⊎ (port ≡ ports.Report)) × (tells ≡ true → PathsFronts paths setup held then now)
PathsWorks paths setup tells held then now status.Memory = tells ≡ true → PathsFronts paths setup held then now
PathsWorks paths setup tells held then now _ = ⊥

-- what each answer says, where the words are these
abbrev pub PathsRuns : Paths → Bool → Files → (Port → Shown) → (Port → Shown) → Status → Type 0
PathsRuns paths tells held then now answer =
    RunsOnSetup paths.setup (λ setup. PathsWorks paths setup tells held then now answer) tells held then now answer

-- ---- what the files ask for

-- no field of the control file is refused: it is read whole, or ends short
abbrev pub NoFieldRefused : Parts → List ℕ → Type 0
NoFieldRefused setup input =
    (segments : List Segment) (r : Refusal) → ReadsControl input (numbers setup.peers) segments (Some r) → r.reason ≡ reasons.Short

-- what a control file within its limit asks for
abbrev pub InputAsks : Parts → List ℕ → Status → Type 0
InputAsks setup input answer =
    (((segments : List Segment) × ReadsControl input (numbers setup.peers) segments None) × (answer ≡ status.Ok))
    ⊎ ((r : Refusal) × ((segments : List Segment) × ReadsControl input (numbers setup.peers) segments (Some r)) × (answer ≡ status.Control r.place r.reason))

-- What the control file asks for. Of a file with more bytes than the limit a field may be refused before the limit is crossed or
-- not, as the pieces come; so Long is asked for where no field is refused.
abbrev pub ControlAsks : Parts → Option (List ℕ) → Status → Type 0
ControlAsks setup None answer = answer ≡ status.File ports.Control
ControlAsks setup (Some input) answer =
    ((2 ^ 40 < length input) × NoFieldRefused setup input × (answer ≡ status.Long ports.Control))
    ⊎ ((length input ≤ 2 ^ 40) × InputAsks setup input answer)

abbrev pub PathsWants : Paths → Files → Status → Type 0
PathsWants paths held answer = SetupAsks (λ setup asked. ControlAsks setup (held paths.control) asked) (held paths.setup) answer

-- what a call with these words says, whether they are those of `paths` or not
abbrev pub PathsCall : List (List ℕ) → Bool → Files → (Port → Shown) → (Port → Shown) → Status → Type 0
PathsCall = CommandCall IsPaths paths_ports PathsRuns PathsWants
