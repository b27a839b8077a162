-- What the words of `run` say, and that a round on several workers says what it may.
use Rattle.std.proofs.Common.{◌≡◌, ◌≢◌, ℕ, ◌≤◌, ◌<◌, ◌^◌, Bool, List, [], ◌∷◌, length, slice_index_or, Result, codes, decimal, refl, sym, ap, ◌∙◌, subst, arith, OnOk, Ok, Err}
use Rattle.std.specs.List.{AllByRecursion, AllZip}
use Rattle.std.proofs.lemmas.Fmt.{decimal_injective}
use Rattle.std.proofs.lemmas.List.Elements.{All-from_recursion}
use Rattle.std.proofs.lemmas.Slice.Zip.{AllZip-long}
use Rattle.sfc_desk.specs.declared.ports.Port.{Port}
use Rattle.sfc_desk.specs.Desks.{Shown}
use Rattle.control_files.specs.declared.segments.Segment.{Segment}
use Rattle.pcap_io.specs.declared.frames.Captured.{Captured}
use Rattle.record_text.specs.declared.records.Record.{Record}
use Rattle.record_text.specs.Lines.{Names}
use Rattle.session_machine.specs.Groups.{Entry}
use Rattle.sfc_config.specs.Parts.{Parts}
use Rattle.sfc_routes.specs.declared.route_changes.RouteChange.{RouteChange}
use Rattle.round_inputs.specs.declared.halts.Halt.{Halt}
use Rattle.control_histories.specs.Logs.{changes_of}
use Rattle.worker_run.specs.declared.runners.Runner.{Runner}
use Rattle.worker_run.specs.Batches.{Carried, frames_in, records_in}
use Rattle.worker_run.specs.Runners.{RoundedOnThreads, RunCarries}
use Rattle.worker_run.specs.Runs.{RunRecord, SaysRun, made, run_says}
use Rattle.round_outputs.specs.RoundOutputs.{AreNamed}
use Rattle.file_runs.specs.declared.round_frames.RoundFrames.{RoundFrames}
use Rattle.file_runs.specs.declared.run_outputs.RunOutputs.{RunOutputs}
use Rattle.file_runs.specs.declared.run_steps.FileRun.{FileRun}
use Rattle.file_runs.specs.FileRuns.{AreRunFiles, RunFiles}
use Rattle.file_runs.specs.Means.{RoundPuts}
use Rattle.file_runs.specs.RunPuts.{Forwarded, OutsOpen, PutsRound, run_means, waits_of}
use Rattle.file_runs.specs.RunSteps.{Along, Taken, named_by}
use Rattle.file_runs.proofs.RoundLemmas.{round_put, still_open}
use Rattle.file_runs.proofs.TakenLemmas.{with_run}
use Rattle.run_command.specs.RunCommand.{IsThreadedRun, ThreadedRun}
use Rattle.run_command.specs.ThreadedSteps.{AlongOn, HasWorkers, TakenOn}

-- ---- the words

-- the six names and one word more, behind the first word
abbrev behind_first : List ℕ → RunFiles → List ℕ → List (List ℕ)
behind_first first files last = first ∷ files.setup ∷ files.capture ∷ files.control ∷ files.egress ∷ files.lines ∷ files.replies ∷ last ∷ []

-- eight words are the words at the eight places
eight_words : (words : List (List ℕ)) → length words ≡ 8 → words ≡ behind_first (slice_index_or words 0 []) (named_by words) (slice_index_or words 7 [])
eight_words [] e = absurd (omega arith)
eight_words (a ∷ []) e = absurd (omega arith)
eight_words (a ∷ b ∷ []) e = absurd (omega arith)
eight_words (a ∷ b ∷ c ∷ []) e = absurd (omega arith)
eight_words (a ∷ b ∷ c ∷ d ∷ []) e = absurd (omega arith)
eight_words (a ∷ b ∷ c ∷ d ∷ w ∷ []) e = absurd (omega arith)
eight_words (a ∷ b ∷ c ∷ d ∷ w ∷ x ∷ []) e = absurd (omega arith)
eight_words (a ∷ b ∷ c ∷ d ∷ w ∷ x ∷ y ∷ []) e = absurd (omega arith)
eight_words (a ∷ b ∷ c ∷ d ∷ w ∷ x ∷ y ∷ z ∷ []) e = refl
eight_words (a ∷ b ∷ c ∷ d ∷ w ∷ x ∷ y ∷ z ∷ v ∷ zs) e = absurd (omega arith)

named_eight : (words : List (List ℕ)) (first last : List ℕ) (files : RunFiles) → words ≡ behind_first first files last → files ≡ named_by words
named_eight words first last files is = sym (ap named_by is)

last_of_eight : (words : List (List ℕ)) (first last : List ℕ) (files : RunFiles) → words ≡ behind_first first files last → slice_index_or words 7 [] ≡ last
last_of_eight words first last files is = ap (λ (ws : List (List ℕ)). slice_index_or ws 7 []) is

small : (n : ℕ) → n ≤ 16 → n < 2 ^ 64
small n most = omega (arith, most)

-- words are those of one command
pub one_run : (words : List (List ℕ)) (a b : ThreadedRun) → IsThreadedRun words a → IsThreadedRun words b → a ≡ b
one_run words a b is_a is_b =
    let files : a.files ≡ b.files = named_eight words (codes "run") (decimal a.workers) a.files is_a.spelled ∙ sym (named_eight words (codes "run") (decimal b.workers) b.files is_b.spelled) in
    let last : decimal a.workers ≡ decimal b.workers =
    sym (last_of_eight words (codes "run") (decimal a.workers) a.files is_a.spelled) ∙ last_of_eight words (codes "run") (decimal b.workers) b.files is_b.spelled in
    let workers : a.workers ≡ b.workers = decimal_injective a.workers b.workers (small a.workers is_a.most) (small b.workers is_b.most) last in
    λ k. record { files = files k; workers = workers k }

-- the last word is no number of workers
pub no_workers : (words : List (List ℕ)) (last : List ℕ) → slice_index_or words 7 [] ≡ last → ((n : ℕ) → (1 ≤ n) × (n ≤ 16) → last ≢ decimal n) → (said : ThreadedRun) → IsThreadedRun words said → ⊥
no_workers words last is none said x = none said.workers (x.some, x.most) (sym is ∙ last_of_eight words (codes "run") (decimal said.workers) said.files x.spelled)

-- the names are none of a run's
pub no_files : (words : List (List ℕ)) → (AreRunFiles (named_by words) → ⊥) → (said : ThreadedRun) → IsThreadedRun words said → ⊥
no_files words none said x = none (subst AreRunFiles (named_eight words (codes "run") (decimal said.workers) said.files x.spelled) x.fit)

-- the words are those of the command
pub words_are : (words : List (List ℕ)) (files : RunFiles) (workers : ℕ) (last : List ℕ) → length words ≡ 8 → slice_index_or words 0 [] ≡ codes "run" → slice_index_or words 7 [] ≡ last → last ≡ decimal workers
    → (1 ≤ workers) × (workers ≤ 16) → AreRunFiles files → files ≡ named_by words → IsThreadedRun words (record { files = files; workers = workers })
words_are words files workers last many first is spelled range fit same = record {
  spelled = eight_words words many ∙ (λ k. behind_first (first k) (named_by words) ((is ∙ spelled) k)) ∙ ap (λ (f : RunFiles). behind_first (codes "run") f (decimal workers)) (sym same);
  fit = fit;
  some = range.0;
  most = range.1;
}

-- ---- a round

each_named : (setup : Parts) (changes : List RouteChange) (low high workers : ℕ) (old new : List Carried) → AllZip (λ c d. RunCarries setup changes low high workers c d) old new → AllByRecursion (λ (c : Carried). Names setup.roster c.outcome) new
each_named setup changes low high workers [] [] each = tt
each_named setup changes low high workers [] (d ∷ new) each = absurd each
each_named setup changes low high workers (c ∷ old) [] each = absurd each
each_named setup changes low high workers (c ∷ old) (d ∷ new) each = (each.0.named, each_named setup changes low high workers old new each.1)

-- after a round each record names instances of the roster alone
pub named_on_threads : (setup : Parts) (changes : List RouteChange) (low high workers : ℕ) (old new : List Carried) → AllZip (λ c d. RunCarries setup changes low high workers c d) old new → AreNamed setup.roster new
named_on_threads setup changes low high workers old new each = All-from_recursion (λ (c : Carried). Names setup.roster c.outcome) new (each_named setup changes low high workers old new each)

many_said : (setup : Parts) (workers : ℕ) (history segments : List Segment) (frames : List Captured) (records : List Record) → SaysRun setup workers history segments frames records → length records ≡ length frames
many_said setup workers history segments frames records x =
    AllZip-long (λ f r. RunRecord setup (changes_of x.log) (made x.log (length history)) (length (changes_of x.log)) workers f r) frames records x.each

-- a round on several workers is a round of which this may be said
pub forwarded_on_threads : (runner : Runner) (history : List Segment) (log : List Entry) (segments : List Segment) (old new : List Carried) (replies : List ℕ) → RoundedOnThreads runner history log segments old new replies
    → Forwarded (run_says runner.setup runner.workers) runner history log segments old new replies
forwarded_on_threads runner history log segments old new replies x = record {
  now = x.now;
  stands = x.stands;
  replies_are = x.replies_are;
  each = many_said runner.setup runner.workers history segments (frames_in old) (records_in new) x.says;
  says_so = x.says;
  out = x.out;
}

-- what was put of the round at the three outputs, by the runner's setup and workers, is what a run says
pub said_of_workers : (workers : ℕ) (setup : Parts) (tells : Bool) (then mid now : Port → Shown) (old new : RunOutputs) (run : FileRun) (place : ℕ) (runner : Runner) (frames : RoundFrames) (r : Result (Unit {0}) Halt)
    → (x : TakenOn workers setup tells then mid old run place) → runner.setup ≡ run.runner.setup → runner.workers ≡ run.runner.workers
    → PutsRound (run_says runner.setup runner.workers) tells mid now old new runner run.form place x.taken.history x.taken.log run.group run.frames.batch frames.batch r
    → RoundPuts (run_means (run_says setup workers) setup) tells mid now (waits_of old) (waits_of new) runner run.form x.taken.passed x.taken.history x.taken.log x.taken.said run.group (frames_in run.frames.batch) r
said_of_workers workers setup tells then mid now old new run place runner frames r x same many puts =
    round_put (run_says setup workers) setup tells mid now old new runner run.form place x.taken.passed x.taken.history x.taken.log x.taken.said run.group run.frames.batch frames.batch r x.taken.is_said.each x.taken.place_is (same ∙ x.taken.standing.setup_is)
    (subst (λ n. PutsRound (run_says setup n) tells mid now old new runner run.form place x.taken.history x.taken.log run.group run.frames.batch frames.batch r) (many ∙ x.has.is)
    (subst (λ (p : Parts). PutsRound (run_says p runner.workers) tells mid now old new runner run.form place x.taken.history x.taken.log run.group run.frames.batch frames.batch r) (same ∙ x.taken.standing.setup_is) puts))

pub has_still : (runner other : Runner) (workers : ℕ) → other.workers ≡ runner.workers → HasWorkers runner workers → HasWorkers other workers
has_still runner other workers same has = record { is = same ∙ has.is; some = has.some; most = has.most }

pub workers_within : (runner : Runner) (workers : ℕ) → HasWorkers runner workers → (1 ≤ runner.workers) × (runner.workers ≤ 16)
workers_within runner workers has = subst (λ n. (1 ≤ n) × (n ≤ 16)) (sym has.is) (has.some, has.most)

pub along_with : (workers : ℕ) (setup : Parts) (tells : Bool) (then now : Port → Shown) (new : RunOutputs) (run : FileRun) (runner : Runner) (frames : RoundFrames) (r : Result (Unit {0}) Halt) → runner.workers ≡ run.runner.workers → HasWorkers run.runner workers
    → OnOk r (OutsOpen now new) → OnOk r (Along (run_means (run_says setup workers) setup) setup tells then now (waits_of new) (with_run run runner frames)) → OnOk r (AlongOn workers setup tells then now new (with_run run runner frames))
along_with workers setup tells then now new run runner frames (Ok done) same has ready along = record { along = along; ready = ready; has = has_still run.runner runner workers same has }
along_with workers setup tells then now new run runner frames (Err halt) same has ready along = tt

-- a round that was taken, by the outputs that stand as they stood
pub taken_on : (workers : ℕ) (setup : Parts) (tells : Bool) (then mid now : Port → Shown) (outs : RunOutputs) (old run : FileRun) (place : ℕ) → (on : AlongOn workers setup tells then mid outs old) → run.runner ≡ old.runner
    → Taken (run_means (run_says setup workers) setup) setup tells then now (waits_of outs) run place → TakenOn workers setup tells then now outs run place
taken_on workers setup tells then mid now outs old run place on same taken = record {
  taken = taken;
  ready = still_open (run_says setup workers) setup mid now outs on.ready taken.standing.ready;
  has = has_still old.runner run.runner workers (ap (λ (r : Runner). r.workers) same) on.has;
}
