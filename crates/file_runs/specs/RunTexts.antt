-- What a run over a capture and a control file writes: the egress, the lines and the replies.
use Rattle.std.specs.Prelude.{◌≡◌, ℕ, List, [], Option}
use Rattle.sfc_desk.specs.declared.ports.Port.TheVariants as ports
use Rattle.pcap_io.specs.declared.forms.Form.{Form}
use Rattle.pcap_io.specs.declared.frames.Captured.{Captured}
use Rattle.control_files.specs.declared.segments.Segment.{Segment}
use Rattle.control_files.specs.Segments.{numbers}
use Rattle.record_text.specs.declared.records.Record.{Record}
use Rattle.session_machine.specs.Groups.{Entry}
use Rattle.sfc_config.specs.Parts.{Parts}
use Rattle.rounds.specs.declared.ends.RunEnd.{RunEnd}
use Rattle.rounds.specs.Rounds.{Round, Rounds, frames_of, segments_of}
use Rattle.rounds.specs.Says.{Says, Lines}
use Rattle.rounds.specs.Views.{Inputs, counted_of, ending}
use Rattle.commands.specs.Outputs.{Outputs}
use Rattle.control_histories.specs.Logs.{AreOfPeers, Heard}
use Rattle.worker_run.specs.Outputs.{EgressOf, LinesOf, RepliesOf}
use Rattle.round_inputs.specs.Taking.{AreInputs}

-- A reader of both files gets frames and segments, with the faults behind them; so the run ends, and these frames and segments are
-- those of the rounds that count.
pub record CountsTo (capture control peers : List ℕ) (form : Option Form) (end : RunEnd) (frames : List Captured) (segments : List Segment) : Type 0 where
  pub whole : Inputs
  pub read : AreInputs capture control form peers whole
  pub end_is : end ≡ ending whole
  pub rounds : List Round
  pub are : Rounds 0 whole.frames whole.segments rounds
  pub frames_are : frames ≡ frames_of (counted_of whole rounds)
  pub segments_are : segments ≡ segments_of (counted_of whole rounds)

-- which lists of records may be a run's, for its frames and segments
abbrev pub RunOf : Type 1
RunOf = List Captured → List Segment → List Record → Type 0

-- what may be said of rounds, one behind the other, is a run, and a run is what its rounds say
pub record AreRuns (setup : Parts) (says : Says Record) (Is : RunOf) : Type 0 where
  pub run : (frames : List Captured) (segments : List Segment) (rounds : List Round) (records : List Record) → AreOfPeers setup.peers segments
      → Rounds 0 frames segments rounds → Lines says [] rounds records → Is frames segments records
  pub rounds : (frames : List Captured) (segments : List Segment) (records : List Record) → Is frames segments records
      → (rounds : List Round) × Rounds 0 frames segments rounds × Lines says [] rounds records

-- What a run writes for both files: the records of the frames that count put these bytes at the outputs.
pub record RunWrites (Is : RunOf) (setup : Parts) (capture control : List ℕ) (end : RunEnd) (out : Outputs) : Type 0 where
  pub form : Option Form
  pub frames : List Captured
  pub segments : List Segment
  pub records : List Record
  pub counts : CountsTo capture control (numbers setup.peers) form end frames segments
  pub run : Is frames segments records
  pub log : List Entry
  pub heard : Heard setup.local setup.peers segments log
  pub egress : out ports.Egress ≡ EgressOf setup form frames records
  pub lines : out ports.Lines ≡ LinesOf setup records
  pub replies : out ports.Replies ≡ RepliesOf segments log
