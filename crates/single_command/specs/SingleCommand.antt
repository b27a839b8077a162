-- `single SETUP CAPTURE CONTROL EGRESS LINES REPLIES`: the run on one thread over a capture and a control file.
use Rattle.std.specs.Prelude.{◌≡◌, ℕ, Bool, List, [], ◌∷◌, codes}
use Rattle.sfc_desk.specs.declared.ports.Port.{Port}
use Rattle.sfc_desk.specs.Desks.{Shown, Files}
use Rattle.commands.specs.declared.statuses.Status.{Status}
use Rattle.commands.specs.Commands.{CommandCall}
use Rattle.commands.specs.Outputs.{TookFrontsOfEach}
use Rattle.file_runs.specs.FileRuns.{AreRunFiles, FileAnswers, FileWants, RunFiles, run_ports}
use Rattle.worker_run.specs.Runs.{IsSingle}

-- the words are `single` and these names
pub record IsSingleWords (words : List (List ℕ)) (files : RunFiles) : Type 0 where
  pub spelled : words ≡ codes "single" ∷ files.setup ∷ files.capture ∷ files.control ∷ files.egress ∷ files.lines ∷ files.replies ∷ []
  pub fit : AreRunFiles files

-- What each answer says, where the words are these: what is written is that of the run on one thread. There is one (`one_run_is_written`),
-- so what the outputs hold of each where the call stops are fronts of it.
abbrev pub SingleRuns : RunFiles → Bool → Files → (Port → Shown) → (Port → Shown) → Status → Type 0
SingleRuns = FileAnswers IsSingle TookFrontsOfEach

abbrev pub SingleWants : RunFiles → Files → Status → Type 0
SingleWants = FileWants

-- what a call with these words says, whether they are those of `single` or not
abbrev pub SingleCall : List (List ℕ) → Bool → Files → (Port → Shown) → (Port → Shown) → Status → Type 0
SingleCall = CommandCall IsSingleWords run_ports SingleRuns SingleWants
