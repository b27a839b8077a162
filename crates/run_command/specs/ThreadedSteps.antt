-- Where a run on several workers stands between its steps. No public clause stands on it.
use Rattle.std.specs.Prelude.{◌≡◌, ℕ, ◌≤◌, Bool}
use Rattle.sfc_desk.specs.declared.ports.Port.{Port}
use Rattle.sfc_desk.specs.Desks.{Shown}
use Rattle.sfc_config.specs.Parts.{Parts}
use Rattle.rounds.specs.declared.ends.RunEnd.{RunEnd}
use Rattle.worker_run.specs.declared.runners.Runner.{Runner}
use Rattle.worker_run.specs.Runs.{run_says}
use Rattle.file_runs.specs.declared.run_steps.FileRun.{FileRun}
use Rattle.file_runs.specs.declared.run_outputs.RunOutputs.{RunOutputs}
use Rattle.file_runs.specs.RunPuts.{OutsOpen, run_means, waits_of}
use Rattle.file_runs.specs.RunSteps.{Along, Over, Taken, files_of}
use Rattle.run_command.specs.declared.threaded_words.ThreadedWords.{ThreadedWords}
use Rattle.run_command.specs.RunCommand.{ThreadedRun}

-- what the words say, as the program keeps it
abbrev pub threaded_of : ThreadedWords → ThreadedRun
threaded_of said = record { files = files_of said.files; workers = said.workers }

-- the runner has so many workers
pub record HasWorkers (runner : Runner) (workers : ℕ) : Type 0 where
  pub is : runner.workers ≡ workers
  pub some : 1 ≤ workers
  pub most : workers ≤ 16

-- between two rounds
pub record AlongOn (workers : ℕ) (setup : Parts) (tells : Bool) (then now : Port → Shown) (outs : RunOutputs) (run : FileRun) : Type 0 where
  pub along : Along (run_means (run_says setup workers) setup) setup tells then now (waits_of outs) run
  pub ready : OutsOpen now outs
  pub has : HasWorkers run.runner workers

-- a round was taken, and not run yet
pub record TakenOn (workers : ℕ) (setup : Parts) (tells : Bool) (then now : Port → Shown) (outs : RunOutputs) (run : FileRun) (place : ℕ) : Type 0 where
  pub taken : Taken (run_means (run_says setup workers) setup) setup tells then now (waits_of outs) run place
  pub ready : OutsOpen now outs
  pub has : HasWorkers run.runner workers

-- the run ends
pub record OverOn (workers : ℕ) (setup : Parts) (tells : Bool) (then now : Port → Shown) (outs : RunOutputs) (run : FileRun) (end : RunEnd) : Type 0 where
  pub over : Over (run_means (run_says setup workers) setup) setup tells then now (waits_of outs) run end
  pub ready : OutsOpen now outs
