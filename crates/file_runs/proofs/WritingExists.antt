-- A run is written for every two files.
use Rattle.std.proofs.Common.{ℕ, List, ◌++◌, Option, length, refl, subst}
use Rattle.wire_base.specs.Numbers.{AreBytes}
use Rattle.pcap_io.specs.declared.forms.Form.{Form}
use Rattle.pcap_io.specs.declared.frames.Captured.{Captured}
use Rattle.control_files.specs.declared.segments.Segment.{Segment}
use Rattle.control_files.specs.Segments.{numbers}
use Rattle.record_text.specs.declared.records.Record.{Record}
use Rattle.sfc_config.specs.Parts.{AreParts, Parts}
use Rattle.rounds.specs.declared.ends.RunEnd.{RunEnd}
use Rattle.rounds.specs.Rounds.{Round, Rounds, frames_of, segments_of}
use Rattle.rounds.specs.Views.{Inputs, counted_of, ending}
use Rattle.rounds.proofs.FrontRounds.{counted_is_front, fronts}
use Rattle.rounds.proofs.RoundLemmas.{exists}
use Rattle.commands.specs.Outputs.{Outputs}
use Rattle.history_laws.specs.Histories.{IsHistory}
use Rattle.history_laws.proofs.HistoryLemmas.{SomeLog, history_front, is_history}
use Rattle.round_inputs.specs.Taking.{AreInputs}
use Rattle.worker_run.specs.Outputs.{EgressOf, LinesOf, RepliesOf}
use Rattle.file_runs.specs.RunTexts.{CountsTo, RunOf, RunWrites}
use Rattle.file_runs.specs.RunPuts.{Texts, outputs_of}

-- the frames and segments that count, which are a history
record Counting (setup : Parts) (capture control : List ℕ) : Type 0 where
  form : Option Form
  end : RunEnd
  frames : List Captured
  segments : List Segment
  counts : CountsTo capture control (numbers setup.peers) form end frames segments
  history : IsHistory setup.peers segments

-- every two files are read
abbrev pub SomeInputs : Type 0
SomeInputs = (capture control peers : List ℕ) → AreBytes capture → AreBytes control → (form : Option Form) × (whole : Inputs) × AreInputs capture control form peers whole

counting : SomeInputs → (setup : Parts) (capture control : List ℕ) → AreBytes capture → AreBytes control → Counting setup capture control
counting some setup capture control of_capture of_control =
    let given = some capture control (numbers setup.peers) of_capture of_control in
    let whole : Inputs = given.1 in
    let rounds = exists 0 whole.frames whole.segments in
    let counted = counted_of whole rounds.0 in
    let part = counted_is_front (length whole.frames) (ending whole) rounds.0 in
    let front = fronts 0 whole.frames whole.segments counted part.0 (subst (λ (rs : List Round). Rounds 0 whole.frames whole.segments rs) part.1 rounds.1) in
    let all : IsHistory setup.peers whole.segments = is_history setup.peers control whole.segments whole.control_fault of_control given.2.segments in
    let joined : IsHistory setup.peers (segments_of counted ++ front.1) = subst (IsHistory setup.peers) front.3 all in
    record {
      form = given.0;
      end = ending whole;
      frames = frames_of counted;
      segments = segments_of counted;
      counts = record { whole = whole; read = given.2; end_is = refl; rounds = rounds.0; are = rounds.1; frames_are = refl; segments_are = refl };
      history = history_front setup.peers (segments_of counted) front.1 joined;
    }

-- where all frames and all segments of a history have a run, two files have what it writes
pub some_writing : SomeInputs → SomeLog → (Is : RunOf) (setup : Parts)
    → ((frames : List Captured) (segments : List Segment) → IsHistory setup.peers segments → (records : List Record) × Is frames segments records)
    → (capture control : List ℕ) → AreParts setup → AreBytes capture → AreBytes control
    → (end : RunEnd) × (out : Outputs) × RunWrites Is setup capture control end out
some_writing some some_log Is setup some_run capture control parts of_capture of_control =
    let all = counting some setup capture control of_capture of_control in
    let run = some_run all.frames all.segments all.history in
    let log = some_log setup.local setup.peers all.segments parts.peers_differ all.history.of_peers all.history.bytes in
    let texts : Texts = record { egress = EgressOf setup all.form all.frames run.0; lines = LinesOf setup run.0; replies = RepliesOf all.segments log.0 } in (
      all.end,
      outputs_of texts,
      record {
        form = all.form;
        frames = all.frames;
        segments = all.segments;
        records = run.0;
        counts = all.counts;
        run = run.1;
        log = log.0;
        heard = log.1;
        egress = refl;
        lines = refl;
        replies = refl;
      },
    )
