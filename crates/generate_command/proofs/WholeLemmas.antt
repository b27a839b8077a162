-- How a run begins, and what a whole one comes to.
use Rattle.std.proofs.Common.{◌≡◌, ℕ, ◌*◌, ◌≤◌, List, [], ◌∷◌, length, refl, sym, ap, subst, ◌∙◌, arith, append-nil}
use Rattle.std.specs.List.{AllByRecursion}
use Rattle.std.proofs.lemmas.List.Elements.{recursion_from_All}
use Rattle.control_files.specs.declared.segments.Segment.{Segment}
use Rattle.pcap_io.specs.declared.frames.Captured.{Captured}
use Rattle.record_text.specs.declared.records.Record.{Record}
use Rattle.session_machine.specs.Peers.{AllHold}
use Rattle.sfc_config.specs.Parts.{Parts}
use Rattle.rounds.specs.declared.ends.RunEnd.TheVariants as ends
use Rattle.rounds.specs.Rounds.{Round, Rounds}
use Rattle.rounds.specs.Says.{Lines}
use Rattle.rounds.specs.Views.{Gives, View, so_far, view_at_first}
use Rattle.rounds.proofs.LeadLemmas.{leads_self}
use Rattle.rounds.proofs.EndLemmas.{ends_over, ends_whole}
use Rattle.control_histories.specs.Logs.{AreOfPeers, Heard}
use Rattle.worker_run.specs.Controls.{bytes_in}
use Rattle.worker_run.specs.Runners.{Stands}
use Rattle.worker_run.specs.Runs.{IsSingle, single_says}
use Rattle.file_runs.proofs.AlongLemmas.{heard_by}
use Rattle.generated_inputs.specs.Inputs.{IsGenerated}
use Rattle.generated_inputs.proofs.InputLemmas.{MayRun}
use Rattle.generate_command.specs.declared.counted_runs.CountedRun.{CountedRun}
use Rattle.generate_command.specs.Summaries.{Counted, summary_of}
use Rattle.generate_command.specs.GenerateSteps.{Along, in_memory, view_of}

-- short segments have few bytes
bytes_few : (segments : List Segment) → AllByRecursion (λ (s : Segment). length s.bytes ≤ 65535) segments → bytes_in segments ≤ 65535 * length segments
bytes_few [] short = omega arith
bytes_few (s ∷ ss) short = let rest = bytes_few ss short.1 in omega (arith, rest, short.0)

-- before the first round
along_first : (setup : Parts) (frames : List Captured) (segments : List Segment) (run : CountedRun) → MayRun setup frames segments → run.runner.setup ≡ setup → Stands run.runner [] [] → AllHold 0 run.runner.control.sessions.sessions.items → run.summary ≡ summary_of [] [] []
    → Along setup (in_memory frames segments) run frames segments
along_first setup frames segments run may setup_is stands hold counted = record {
  passed = [];
  history = [];
  log = [];
  said = [];
  frames_are = refl;
  segments_are = refl;
  few_frames = may.few_frames;
  few_bytes = (let few = bytes_few segments (recursion_from_All (λ (s : Segment). length s.bytes ≤ 65535) segments may.short) in omega (arith, few, may.few_segments));
  fit = record { limits = may.limits; of_peers = may.of_peers; short = may.short };
  setup_is = setup_is;
  stands = stands;
  hold = hold;
  each = refl;
  leads = leads_self (single_says setup) (view_at_first (in_memory frames segments));
  counted = counted;
}

-- where the lists are lent
pub along_lent : (setup : Parts) (frames lent_frames : List Captured) (segments lent_segments : List Segment) (run : CountedRun) → MayRun setup frames segments → run.runner.setup ≡ setup → Stands run.runner [] [] → AllHold 0 run.runner.control.sessions.sessions.items → run.summary ≡ summary_of [] [] []
    → lent_frames ≡ frames → lent_segments ≡ segments → Along setup (in_memory frames segments) run lent_frames lent_segments
along_lent setup frames lent_frames segments lent_segments run may setup_is stands hold counted frames_are segments_are =
    subst (λ (fs : List Captured). Along setup (in_memory frames segments) run fs lent_segments) (sym frames_are)
    (subst (λ (ss : List Segment). Along setup (in_memory frames segments) run frames ss) (sym segments_are) (along_first setup frames segments run may setup_is stands hold counted))

-- rounds that say something are a run (`a_single_run_is_what_its_rounds_say`)
abbrev pub RoundsAreRun : Type 0
RoundsAreRun = (setup : Parts) (frames : List Captured) (segments : List Segment) (rounds : List Round) (records : List Record) → AreOfPeers setup.peers segments → Rounds 0 frames segments rounds → Lines (single_says setup) [] rounds records → IsSingle setup frames segments records

-- behind the last round
pub whole_run : RoundsAreRun → (setup : Parts) (frames : List Captured) (segments : List Segment) (run : CountedRun) → AreOfPeers setup.peers segments → (along : Along setup (in_memory frames segments) run [] []) → IsSingle setup frames segments along.said
whole_run rounds_are setup frames segments run peers along =
    let first : View Record = view_at_first (in_memory frames segments) in
    let last : View Record = view_of along.passed along.history along.said [] [] in
    let given : Gives (single_says setup) first (so_far last) = (ends_over (single_says setup) first last ends.Whole along.leads (ends_whole (single_says setup) last refl refl refl refl)).1 in
    rounds_are setup frames segments given.rounds along.said peers given.are
    (subst (λ (l : List Record). Lines (single_says setup) [] given.rounds l) (sym given.said_are) given.run)

pub counted_whole : RoundsAreRun → (seed count : ℕ) (setup : Parts) (frames : List Captured) (segments : List Segment) (run : CountedRun) → IsGenerated seed count setup frames segments → AreOfPeers setup.peers segments → Along setup (in_memory frames segments) run [] [] → Counted seed count run.summary
counted_whole rounds_are seed count setup frames segments run generated peers along =
    let passed : along.passed ≡ frames = sym (append-nil along.passed) ∙ along.frames_are in
    let history : along.history ≡ segments = sym (append-nil along.history) ∙ along.segments_are in
    record {
      setup = setup;
      frames = frames;
      segments = segments;
      generated = generated;
      records = along.said;
      run = whole_run rounds_are setup frames segments run peers along;
      log = along.log;
      heard = subst (λ (ss : List Segment). Heard setup.local setup.peers ss along.log) history (heard_by setup run.runner along.history along.log along.setup_is along.stands);
      summary_is = along.counted ∙ ap (λ (fs : List Captured). summary_of fs along.said along.log) passed;
    }
