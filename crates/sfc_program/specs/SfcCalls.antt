-- The commands of the program: which words spell which, what each answer says, and what files ask for.
use Rattle.std.specs.Prelude.{◌≡◌, ℕ, Bool, List, [], ◌∷◌, codes, bytes_eq, if◌then◌else◌}
use Rattle.sfc_desk.specs.declared.ports.Port.{Port}
use Rattle.sfc_desk.specs.Desks.{Shown, Files}
use Rattle.commands.specs.declared.statuses.Status.{Status}
use Rattle.commands.specs.declared.statuses.Status.TheVariants as status
use Rattle.commands.specs.Commands.{Behaves}
use Rattle.walk_command.specs.WalkCommand.{Walk, IsWalk, WalkRuns, WalkWants, WalkCall, walk_ports}
use Rattle.show_command.specs.ShowCommand.{Show, IsShow, ShowRuns, ShowWants, ShowCall, show_ports}
use Rattle.announce_command.specs.AnnounceCommand.{Announce, IsAnnounce, AnnounceRuns, AnnounceWants, AnnounceCall, announce_ports}
use Rattle.paths_command.specs.PathsCommand.{Paths, IsPaths, PathsRuns, PathsWants, PathsCall, paths_ports}
use Rattle.file_runs.specs.FileRuns.{RunFiles, run_ports}
use Rattle.single_command.specs.SingleCommand.{IsSingleWords, SingleRuns, SingleWants, SingleCall}
use Rattle.run_command.specs.RunCommand.{ThreadedRun, IsThreadedRun, ThreadedRuns, ThreadedWants, RunCall, threaded_ports}
use Rattle.generate_command.specs.GenerateCommand.{Generate, IsGenerate, GenerateRuns, GenerateWants, GenerateCall, generate_ports}
use Rattle.from_pcapng_command.specs.FromPcapngCommand.{FromPcapng, IsFromPcapng, FromPcapngRuns, FromPcapngWants, FromPcapngCall, from_pcapng_ports}
use Rattle.to_pcapng_command.specs.ToPcapngCommand.{ToPcapng, IsToPcapng, ToPcapngRuns, ToPcapngWants, ToPcapngCall, to_pcapng_ports}
use Rattle.sfc_program.specs.declared.sfc_calls.Row.{Row}
use Rattle.sfc_program.specs.declared.sfc_calls.Row.TheVariants as row

-- a command with what its words say
pub data Command : Type 0 where
  walk : Walk → Command
  show : Show → Command
  announce : Announce → Command
  paths : Paths → Command
  single : RunFiles → Command
  run : ThreadedRun → Command
  generate : Generate → Command
  from_pcapng : FromPcapng → Command
  to_pcapng : ToPcapng → Command

-- the words spell the command
abbrev pub Spells : List (List ℕ) → Command → Type 0
Spells words (walk said) = IsWalk words said
Spells words (show said) = IsShow words said
Spells words (announce said) = IsAnnounce words said
Spells words (paths said) = IsPaths words said
Spells words (single said) = IsSingleWords words said
Spells words (run said) = IsThreadedRun words said
Spells words (generate said) = IsGenerate words said
Spells words (from_pcapng said) = IsFromPcapng words said
Spells words (to_pcapng said) = IsToPcapng words said

-- what each answer says of what was written, and of the ports
abbrev pub Runs : Command → Bool → Files → (Port → Shown) → (Port → Shown) → Status → Type 0
Runs (walk said) tells held old new answer = WalkRuns said tells held old new answer × Behaves (walk_ports said) tells held old new answer
Runs (show said) tells held old new answer = ShowRuns said tells held old new answer × Behaves (show_ports said) tells held old new answer
Runs (announce said) tells held old new answer = AnnounceRuns said tells held old new answer × Behaves (announce_ports said) tells held old new answer
Runs (paths said) tells held old new answer = PathsRuns said tells held old new answer × Behaves (paths_ports said) tells held old new answer
Runs (single said) tells held old new answer = SingleRuns said tells held old new answer × Behaves (run_ports said) tells held old new answer
Runs (run said) tells held old new answer = ThreadedRuns said tells held old new answer × Behaves (threaded_ports said) tells held old new answer
Runs (generate said) tells held old new answer = GenerateRuns said tells held old new answer × Behaves (generate_ports said) tells held old new answer
Runs (from_pcapng said) tells held old new answer = FromPcapngRuns said tells held old new answer × Behaves (from_pcapng_ports said) tells held old new answer
Runs (to_pcapng said) tells held old new answer = ToPcapngRuns said tells held old new answer × Behaves (to_pcapng_ports said) tells held old new answer

-- what the files ask for
abbrev pub Wants : Command → Files → Status → Type 0
Wants (walk said) held answer = WalkWants said held answer
Wants (show said) held answer = ShowWants said held answer
Wants (announce said) held answer = AnnounceWants said held answer
Wants (paths said) held answer = PathsWants said held answer
Wants (single said) held answer = SingleWants said held answer
Wants (run said) held answer = ThreadedWants said held answer
Wants (generate said) held answer = GenerateWants said held answer
Wants (from_pcapng said) held answer = FromPcapngWants said held answer
Wants (to_pcapng said) held answer = ToPcapngWants said held answer

-- the row of the commands that the first word picks
abbrev pub row_of : List (List ℕ) → Row
row_of [] = row.Unknown
row_of (word ∷ words) =
    if bytes_eq word (codes "walk") then row.Walk
    else if bytes_eq word (codes "show") then row.Show
    else if bytes_eq word (codes "announce") then row.Announce
    else if bytes_eq word (codes "paths") then row.Paths
    else if bytes_eq word (codes "single") then row.Single
    else if bytes_eq word (codes "run") then row.Run
    else if bytes_eq word (codes "generate") then row.Generate
    else if bytes_eq word (codes "from-pcapng") then row.FromPcapng
    else if bytes_eq word (codes "to-pcapng") then row.ToPcapng
    else row.Unknown

-- what the call of a row says
abbrev pub RowCall : Row → List (List ℕ) → Bool → Files → (Port → Shown) → (Port → Shown) → Status → Type 0
RowCall row.Walk words tells held old new answer = WalkCall words tells held old new answer
RowCall row.Show words tells held old new answer = ShowCall words tells held old new answer
RowCall row.Announce words tells held old new answer = AnnounceCall words tells held old new answer
RowCall row.Paths words tells held old new answer = PathsCall words tells held old new answer
RowCall row.Single words tells held old new answer = SingleCall words tells held old new answer
RowCall row.Run words tells held old new answer = RunCall words tells held old new answer
RowCall row.Generate words tells held old new answer = GenerateCall words tells held old new answer
RowCall row.FromPcapng words tells held old new answer = FromPcapngCall words tells held old new answer
RowCall row.ToPcapng words tells held old new answer = ToPcapngCall words tells held old new answer
RowCall row.Unknown words tells held old new answer = (answer ≡ status.Words) × ((port : Port) → new port ≡ old port)
