-- `run SETUP CAPTURE CONTROL EGRESS LINES REPLIES WORKERS`: the run on several workers over a capture and a control file.
use Rattle.std.specs.Prelude.{◌≡◌, ℕ, ◌≤◌, Bool, List, [], ◌∷◌, codes, decimal}
use Rattle.sfc_desk.specs.declared.ports.Port.{Port}
use Rattle.sfc_desk.specs.Desks.{Shown, Files}
use Rattle.commands.specs.declared.statuses.Status.{Status}
use Rattle.commands.specs.Commands.{CommandCall}
use Rattle.commands.specs.Places.{Place}
use Rattle.record_laws.specs.Ways.{IsToldRun}
use Rattle.file_runs.specs.FileRuns.{AreRunFiles, FileAnswers, FileWants, RunFiles, RunsOf, TookFrontsOfSome, run_ports}

-- what the words say: the six files, and how many workers there are
pub record ThreadedRun : Type 0 where
  pub files : RunFiles
  pub workers : ℕ

-- the words are `run`, these names, and 1 to 16 workers, in decimal without leading zeros
pub record IsThreadedRun (words : List (List ℕ)) (said : ThreadedRun) : Type 0 where
  pub spelled : words ≡ codes "run" ∷ said.files.setup ∷ said.files.capture ∷ said.files.control ∷ said.files.egress ∷ said.files.lines ∷ said.files.replies ∷ decimal said.workers ∷ []
  pub fit : AreRunFiles said.files
  pub some : 1 ≤ said.workers
  pub most : said.workers ≤ 16

-- the ports are those of every run over these files
abbrev pub threaded_ports : ThreadedRun → List Place
threaded_ports said = run_ports said.files

-- The records are a run on so many workers, each of which tells the way of its frame. Which run it is, the schedule of the threads decides.
abbrev pub IsRunOn : ℕ → RunsOf
IsRunOn workers setup frames segments records = IsToldRun setup workers frames segments records

-- What each answer says, where the words are these. With Ok the outputs took what one run on so many workers writes for the three files;
-- where the call stops, fronts of one.
abbrev pub ThreadedRuns : ThreadedRun → Bool → Files → (Port → Shown) → (Port → Shown) → Status → Type 0
ThreadedRuns said = FileAnswers (IsRunOn said.workers) TookFrontsOfSome said.files

abbrev pub ThreadedWants : ThreadedRun → Files → Status → Type 0
ThreadedWants said = FileWants said.files

-- what a call with these words says, whether they are those of `run` or not
abbrev pub RunCall : List (List ℕ) → Bool → Files → (Port → Shown) → (Port → Shown) → Status → Type 0
RunCall = CommandCall IsThreadedRun threaded_ports ThreadedRuns ThreadedWants
