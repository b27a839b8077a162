-- Where the work of `paths` stands between its steps.
use Rattle.std.specs.Prelude.{◌≡◌, ◌≢◌, ◌⊎◌, ℕ, ◌+◌, ◌<◌, ◌≤◌, ◌^◌, Bool, true, false, List, [], ◌∷◌, ◌++◌, length, Option, Some, None}
use Rattle.sfc_desk.specs.Desks.{Shown as PortShown, Rose}
use Rattle.sfc_desk.specs.declared.ports.Port.{Port}
use Rattle.sfc_desk.specs.declared.ports.Port.TheVariants as ports
use Rattle.control_files.specs.declared.segments.Segment.{Segment}
use Rattle.control_files.specs.declared.reasons.Refusal.{Refusal}
use Rattle.control_files.specs.declared.reasons.ControlReason.TheVariants as reasons
use Rattle.control_files.specs.Refusals.{told}
use Rattle.control_files.specs.Segments.{IsControl, numbers}
use Rattle.control_files.specs.Kept.{Kept}
use Rattle.control_files.specs.Calls.{IsHeld}
use Rattle.control_files.specs.Reads.{ReadsControl}
use Rattle.control_files.specs.Streams.{Stands as FeedStands}
use Rattle.sfc_routes.specs.declared.route_changes.RouteChange.{RouteChange}
use Rattle.sfc_routes.specs.Entries.{Entries}
use Rattle.sfc_routes.specs.LastWords.{Stands}
use Rattle.session_machine.specs.Groups.{Entry}
use Rattle.session_machine.specs.Peers.{AllHold}
use Rattle.path_selection.specs.Paths.{ServicePath}
use Rattle.record_text.specs.Tables.{table_text}
use Rattle.sfc_config.specs.Parts.{Parts}
use Rattle.commands.specs.declared.statuses.Status.{Status}
use Rattle.commands.specs.declared.statuses.Status.TheVariants as status
use Rattle.commands.specs.declared.writing.WriteFault.{WriteFault}
use Rattle.commands.specs.declared.writing.WriteFault.TheVariants as write
use Rattle.commands.specs.Fronts.{IsFrontBehind}
use Rattle.commands.specs.Pieces.{NoneBound, SameCounts}
use Rattle.control_histories.specs.Logs.{AreWith, Heard, Hears, changes_of}
use Rattle.control_histories.specs.Versions.{TableAfter}
use Rattle.paths_command.specs.declared.paths_words.PathsWords.{PathsWords}
use Rattle.paths_command.specs.declared.version_runs.VersionRun.{VersionRun}
use Rattle.paths_command.specs.PathsCommand.{Paths}
use Rattle.paths_command.specs.VersionTexts.{VersionsText, Writes}

-- what the words of `paths` say, as the program keeps it
abbrev pub paths_of : PathsWords → Paths
paths_of said = record { setup = said.setup.now; control = said.control.now }

-- ---- versions

-- the text of the version that these changes make stands behind what was there
pub record AddsVersion (roster : Entries) (changes : List RouteChange) (version : ℕ) (then now : List ℕ) : Type 0 where
  pub table : List ServicePath
  pub after : TableAfter roster changes table
  pub put : now ≡ then ++ table_text roster version table

-- nothing stands there, or a front of that text
abbrev pub AddsFront : Entries → List RouteChange → ℕ → List ℕ → List ℕ → Type 0
AddsFront roster changes version then now =
    (now ≡ then) ⊎ ((table : List ServicePath) × TableAfter roster changes table × IsFrontBehind then now (table_text roster version table))

-- behind what was there stand the versions that these changes make
abbrev pub Shows : Entries → List RouteChange → List ℕ → List ℕ → Type 0
Shows roster changes before now = (text : List ℕ) × VersionsText roster changes text × (now ≡ before ++ text)

-- or a front of those that the first of them make
pub record ShowsFront (roster : Entries) (changes : List RouteChange) (before now : List ℕ) : Type 0 where
  pub shown : List RouteChange
  pub todo : List RouteChange
  pub joined : changes ≡ shown ++ todo
  pub text : List ℕ
  pub versions : VersionsText roster shown text
  pub front : IsFrontBehind before now text

-- the routes and the version are those after the changes that were shown
pub record Shown (roster : Entries) (tells : Bool) (run : VersionRun) (shown : List RouteChange) (before now : List ℕ) : Type 0 where
  pub routes : Stands run.routes shown
  pub version : run.version ≡ length shown
  pub shows : tells ≡ true → Shows roster shown before now

-- ---- segments

-- the sessions are those of the setup, and their peers sent at most so many bytes since their connections
pub record IsFor (setup : Parts) (run : VersionRun) (most : ℕ) : Type 0 where
  pub peers : AreWith run.sessions setup.local setup.peers
  pub count : AllHold most run.sessions.sessions.items

-- before the first segment
pub record Begins (setup : Parts) (run : VersionRun) : Type 0 where
  pub is_for : IsFor setup run 0
  pub hears : Hears run.sessions [] []
  pub routes : Stands run.routes []
  pub version : run.version ≡ 0

-- the sessions heard the segments, and the versions that these make were shown
pub record Hearing (setup : Parts) (tells : Bool) (run : VersionRun) (segments : List Segment) (most : ℕ) (before now : List ℕ) : Type 0 where
  pub is_for : IsFor setup run most
  pub log : List Entry
  pub hears : Hears run.sessions segments log
  pub shown : Shown setup.roster tells run (changes_of log) before now

-- a front of the versions that these segments make stands behind what was there
pub record WroteFront (setup : Parts) (segments : List Segment) (before now : List ℕ) : Type 0 where
  pub log : List Entry
  pub heard : Heard setup.local setup.peers segments log
  pub shows : ShowsFront setup.roster (changes_of log) before now

-- the status of a version that was not written
abbrev pub status_of_fault : WriteFault → Status
status_of_fault write.File = status.File ports.Report
status_of_fault write.OutOfMemory = status.Memory

-- ---- the bound control file

-- what is left of it
abbrev pub input_of : (Port → PortShown) → List ℕ
input_of then = (then ports.Control).left

-- it stays bound, and nothing was touched but it and Report
pub record Touched (tells : Bool) (then now : Port → PortShown) : Type 0 where
  pub none_bound : NoneBound tells then now
  pub bound : (now ports.Control).bound ≡ true
  pub others : (port : Port) → port ≢ ports.Control → port ≢ ports.Report → now port ≡ then port

-- a piece was read into the feed, or the end was met
pub record ReadsPiece (tells : Bool) (then now : Port → PortShown) (old new : Kept) (more : Bool) : Type 0 where
  pub piece : List ℕ
  pub history : (taken : List ℕ) (given : List Segment) → FeedStands old taken given → FeedStands new (taken ++ piece) given
  pub joined : tells ≡ true → input_of then ≡ piece ++ input_of now
  pub rest : new.rest ≡ old.rest ++ piece
  pub place : new.place ≡ old.place
  pub peers : new.peers ≡ old.peers
  pub mark : new.mark ≡ old.mark
  pub few : new.place + length new.rest ≤ 2 ^ 40
  pub some : more ≡ true → 0 < length piece
  pub none : more ≡ false → piece ≡ []
  pub end : tells ≡ true → more ≡ false → input_of now ≡ []
  pub counts : SameCounts then now

-- why no piece was read
abbrev pub NoPiece : Bool → (Port → PortShown) → (Port → PortShown) → Kept → Status → Type 0
NoPiece tells then now feed (status.File port) = (port ≡ ports.Control) × Rose (then port) (now port)
NoPiece tells then now feed (status.Long port) =
    (port ≡ ports.Control) × (tells ≡ true → 2 ^ 40 < feed.place + length feed.rest + length (input_of then))
NoPiece tells then now feed status.Memory = Unit {0}
NoPiece tells then now feed _ = ⊥

pub record ReadStops (tells : Bool) (then now : Port → PortShown) (feed : Kept) (answer : Status) : Type 0 where
  pub cause : NoPiece tells then now feed answer
  pub counts : (port : Port) → answer ≢ status.File port → (now port).faults ≡ (then port).faults

-- how a file ends that was read to its end
abbrev pub EndSays : Kept → Status → Type 0
EndSays feed status.Ok = (taken : List ℕ) (given : List Segment) → FeedStands feed taken given → IsHeld feed → ReadsControl taken feed.peers given None
EndSays feed (status.Control place reason) =
    (taken : List ℕ) (given : List Segment) → FeedStands feed taken given → IsHeld feed → ReadsControl taken feed.peers given (Some (told place reason))
EndSays feed status.Memory = Unit {0}
EndSays feed _ = ⊥

-- Since the work on it began, these bytes were taken and these segments given and heard, and the versions that they make stand
-- behind what Report had.
pub record StreamOn (setup : Parts) (tells : Bool) (then now : Port → PortShown) (feed : Kept) (run : VersionRun) : Type 0 where
  pub touched : Touched tells then now
  pub counts : SameCounts then now
  pub taken : List ℕ
  pub joined : tells ≡ true → input_of then ≡ taken ++ input_of now
  pub segments : List Segment
  pub took : FeedStands feed taken segments
  pub peers : feed.peers ≡ numbers setup.peers
  pub few : feed.place + length feed.rest ≤ 2 ^ 40
  pub hearing : Hearing setup tells run segments feed.place (then ports.Report).written (now ports.Report).written

-- nothing is left of it
pub record StreamEnded (setup : Parts) (tells : Bool) (then now : Port → PortShown) (feed : Kept) (run : VersionRun) : Type 0 where
  pub on : StreamOn setup tells then now feed run
  pub held : IsHeld feed
  pub none_left : tells ≡ true → input_of now ≡ []

-- ---- what each answer says of it

-- behind what Report had stands the text of the input up to this stop
abbrev pub WroteAll : Parts → List ℕ → Option Refusal → List ℕ → List ℕ → Type 0
WroteAll setup input stop before now = (text : List ℕ) × Writes setup input stop text × (now ≡ before ++ text)

-- or a front of what segments at the front of the input make
pub record WroteFrontOf (setup : Parts) (input before now : List ℕ) : Type 0 where
  pub front : List ℕ
  pub rest : List ℕ
  pub segments : List Segment
  pub is_control : IsControl front (numbers setup.peers) segments
  pub joined : input ≡ front ++ rest
  pub wrote : WroteFront setup segments before now

-- what ends short was read to its end, within the limit
abbrev pub IsShortWithin : Refusal → List ℕ → Type 0
IsShortWithin r input = r.reason ≡ reasons.Short → length input ≤ 2 ^ 40

abbrev pub StreamWorks : Parts → Bool → (Port → PortShown) → (Port → PortShown) → Status → Type 0
StreamWorks setup tells then now status.Ok =
    tells ≡ true → (length (input_of then) ≤ 2 ^ 40) × (input_of now ≡ []) × WroteAll setup (input_of then) None (then ports.Report).written (now ports.Report).written
StreamWorks setup tells then now (status.Control place reason) =
    tells ≡ true → IsShortWithin (told place reason) (input_of then) × WroteAll setup (input_of then) (Some (told place reason)) (then ports.Report).written (now ports.Report).written
StreamWorks setup tells then now (status.Long port) =
    (port ≡ ports.Control) × (tells ≡ true → (2 ^ 40 < length (input_of then)) × WroteFrontOf setup (input_of then) (then ports.Report).written (now ports.Report).written)
StreamWorks setup tells then now (status.File port) =
    (((port ≡ ports.Control) ⊎ (port ≡ ports.Report)) × Rose (then port) (now port))
    × (tells ≡ true → WroteFrontOf setup (input_of then) (then ports.Report).written (now ports.Report).written)
StreamWorks setup tells then now status.Memory = tells ≡ true → WroteFrontOf setup (input_of then) (then ports.Report).written (now ports.Report).written
StreamWorks setup tells then now _ = ⊥

pub record StreamSays (setup : Parts) (tells : Bool) (then now : Port → PortShown) (answer : Status) : Type 0 where
  pub works : StreamWorks setup tells then now answer
  pub none_bound : NoneBound tells then now
  pub counts : (port : Port) → answer ≢ status.File port → (now port).faults ≡ (then port).faults
  pub others : (port : Port) → port ≢ ports.Control → port ≢ ports.Report → now port ≡ then port
