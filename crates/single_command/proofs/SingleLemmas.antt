-- What the words of `single` say, and that a round on one thread says what it may.
use Rattle.std.proofs.Common.{◌≡◌, ℕ, Bool, List, [], length, Result, slice_index_or, Option, Some, None, MatchOption, codes, sym, ◌∙◌, subst}
use Rattle.std.proofs.lemmas.Slice.Zip.{AllZip-long}
use Rattle.sfc_desk.specs.declared.ports.Port.{Port}
use Rattle.sfc_desk.specs.Desks.{Shown}
use Rattle.control_files.specs.declared.segments.Segment.{Segment}
use Rattle.pcap_io.specs.declared.frames.Captured.{Captured}
use Rattle.record_text.specs.declared.records.Record.{Record}
use Rattle.session_machine.specs.Groups.{Entry}
use Rattle.sfc_config.specs.Parts.{Parts, AreParts}
use Rattle.rounds.specs.Says.{IsOne}
use Rattle.round_inputs.specs.declared.halts.Halt.{Halt}
use Rattle.control_histories.specs.Logs.{AreOfPeers, changes_of}
use Rattle.worker_run.specs.declared.runners.Runner.{Runner}
use Rattle.worker_run.specs.Batches.{Carried, frames_in, records_in}
use Rattle.worker_run.specs.Records.{SingleRecord}
use Rattle.worker_run.specs.Rounds.{SaysSingle}
use Rattle.worker_run.specs.Runners.{Rounded}
use Rattle.worker_run.specs.Runs.{single_says}
use Rattle.worker_run.proofs.SingleRuns.{OneSingle}
use Rattle.file_runs.specs.declared.round_frames.RoundFrames.{RoundFrames}
use Rattle.file_runs.specs.declared.run_outputs.RunOutputs.{RunOutputs}
use Rattle.file_runs.specs.declared.run_steps.FileRun.{FileRun}
use Rattle.file_runs.specs.declared.run_words.RunWords.{RunWords}
use Rattle.file_runs.specs.FileRuns.{AreRunFiles, RunFiles}
use Rattle.file_runs.specs.Means.{RoundPuts}
use Rattle.file_runs.specs.RunPuts.{Forwarded, PutsRound, run_means, waits_of}
use Rattle.file_runs.specs.RunSteps.{Taken, files_of, named_by}
use Rattle.file_runs.proofs.RoundLemmas.{round_put}
use Rattle.file_runs.proofs.CallLemmas.{named_so, spelled_by}
use Rattle.single_command.specs.SingleCommand.{IsSingleWords}

-- words are those of one command
pub one_files : (words : List (List ℕ)) (a b : RunFiles) → IsSingleWords words a → IsSingleWords words b → a ≡ b
one_files words a b is_a is_b = named_so words (codes "single") a is_a.spelled ∙ sym (named_so words (codes "single") b is_b.spelled)

-- what is read of seven words
pub words_named : (words : List (List ℕ)) (read : Option RunWords) → length words ≡ 7 → slice_index_or words 0 [] ≡ codes "single" → MatchOption read (AreRunFiles (named_by words) → ⊥) (λ said. AreRunFiles (files_of said) × (files_of said ≡ named_by words))
    → MatchOption read ((files : RunFiles) → IsSingleWords words files → ⊥) (λ said. IsSingleWords words (files_of said))
words_named words None many first none = λ files is. none (subst AreRunFiles (named_so words (codes "single") files is.spelled) is.fit)
words_named words (Some said) many first are = record { spelled = spelled_by words (codes "single") (files_of said) many first are.1; fit = are.0 }

many_said : (setup : Parts) (history segments : List Segment) (frames : List Captured) (records : List Record) → SaysSingle setup history segments frames records → length records ≡ length frames
many_said setup history segments frames records x = AllZip-long (λ f r. SingleRecord setup (changes_of x.log) f r) frames records x.each

-- a round on one thread is a round of which this may be said
pub forwarded_once : (runner : Runner) (history : List Segment) (log : List Entry) (segments : List Segment) (old new : List Carried) (replies : List ℕ) → Rounded runner history log segments old new replies
    → Forwarded (single_says runner.setup) runner history log segments old new replies
forwarded_once runner history log segments old new replies x = record {
  now = x.now;
  stands = x.stands;
  replies_are = x.replies_are;
  each = many_said runner.setup history segments (frames_in old) (records_in new) x.says;
  says_so = x.says;
  out = x.out;
}

-- of a round one list is said
pub says_one : OneSingle → (setup : Parts) → AreParts setup → IsOne (single_says setup) (AreOfPeers setup.peers)
says_one one setup parts = λ history r here other fits a b. one setup history r.segments r.frames here other parts.roster_fits fits a b

-- what was put of the round at the three outputs, by the runner's setup, is what a run says
pub said_of_setup : (setup : Parts) (tells : Bool) (mid now : Port → Shown) (old new : RunOutputs) (run : FileRun) (place : ℕ) (runner : Runner) (frames : RoundFrames) (r : Result (Unit {0}) Halt) (then : Port → Shown)
    → (x : Taken (run_means (single_says setup) setup) setup tells then mid (waits_of old) run place) → runner.setup ≡ run.runner.setup
    → PutsRound (single_says runner.setup) tells mid now old new runner run.form place x.history x.log run.group run.frames.batch frames.batch r
    → RoundPuts (run_means (single_says setup) setup) tells mid now (waits_of old) (waits_of new) runner run.form x.passed x.history x.log x.said run.group (frames_in run.frames.batch) r
said_of_setup setup tells mid now old new run place runner frames r then x same puts =
    round_put (single_says setup) setup tells mid now old new runner run.form place x.passed x.history x.log x.said run.group run.frames.batch frames.batch r x.is_said.each x.place_is (same ∙ x.standing.setup_is)
    (subst (λ (p : Parts). PutsRound (single_says p) tells mid now old new runner run.form place x.history x.log run.group run.frames.batch frames.batch r) (same ∙ x.standing.setup_is) puts)
