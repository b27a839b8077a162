-- Where the work of `generate` stands between its steps.
use Rattle.std.specs.Prelude.{◌≡◌, ℕ, ◌+◌, ◌≤◌, ◌<◌, ◌^◌, false, ◌&&◌, List, ◌++◌, length, take, None, All}
use Rattle.std.specs.List.{filter}
use Rattle.control_files.specs.declared.segments.Segment.{Segment}
use Rattle.pcap_io.specs.declared.frames.Captured.{Captured}
use Rattle.pcap_io.specs.Captures.{IsWithinLimits}
use Rattle.record_text.specs.declared.records.Record.{Record}
use Rattle.session_machine.specs.Groups.{Entry}
use Rattle.session_machine.specs.Peers.{AllHold}
use Rattle.sfc_config.specs.Parts.{Parts}
use Rattle.rounds.specs.Rounds.{is_empty, round_frames, round_segments}
use Rattle.rounds.specs.Views.{Inputs, Leads, View, view_at_first}
use Rattle.worker_run.specs.Batches.{records_in}
use Rattle.control_histories.specs.Logs.{AreOfPeers}
use Rattle.worker_run.specs.Controls.{AreShort, bytes_in}
use Rattle.worker_run.specs.Runners.{Rounded, Stands}
use Rattle.worker_run.specs.Runs.{single_says}
use Rattle.generate_command.specs.declared.summaries.Summary.{Summary}
use Rattle.generate_command.specs.declared.counted_runs.CountedRun.{CountedRun}
use Rattle.generate_command.specs.declared.memory_rounds.RoundSize.{RoundSize}
use Rattle.generate_command.specs.declared.generate_words.GenerateWords.{GenerateWords}
use Rattle.generate_command.specs.GenerateCommand.{Generate}
use Rattle.generate_command.specs.Summaries.{Counted, drops, goes, summary_of, summary_text}

-- what the words of `generate` say, as the program keeps it
abbrev pub generate_of : GenerateWords → Generate
generate_of said = record { seed = said.seed; count = said.count }

-- the text is the line of the summary of the run over the inputs from a seed
abbrev pub IsSummaryText : ℕ → ℕ → List ℕ → Type 0
IsSummaryText seed count text = (summary : Summary) × Counted seed count summary × (text ≡ summary_text summary)

-- ---- a round

-- the numbers of a round that is counted keep theirs of 64 bits
abbrev pub IsRoomy : CountedRun → Type 0
IsRoomy run =
    (run.summary.frames + length run.batch < 2 ^ 64) × (run.summary.egress + length run.batch < 2 ^ 64) × (run.summary.dropped + length run.batch < 2 ^ 64)

-- the round was run, and its records are counted
pub record CountsRound (history : List Segment) (log : List Entry) (old new : CountedRun) : Type 0 where
  pub replies : List ℕ
  pub rounded : Rounded new.runner history log old.group old.batch new.batch replies
  pub frames_are : new.summary.frames ≡ old.summary.frames + length new.batch
  pub egress_is : new.summary.egress ≡ old.summary.egress + length (filter goes (records_in new.batch))
  pub dropped_is : new.summary.dropped ≡ old.summary.dropped + length (filter drops (records_in new.batch))
  pub version_is : new.summary.last_version ≡ new.runner.control.version

-- so many frames and segments at the front are the next round, where the first frame has this number
pub record IsNextSize (place : ℕ) (frames : List Captured) (segments : List Segment) (size : RoundSize) : Type 0 where
  pub some : (is_empty frames && is_empty segments) ≡ false
  pub segments_are : take size.segments segments ≡ round_segments place frames segments
  pub frames_are : take size.frames frames ≡ round_frames place frames segments
  pub few_segments : size.segments ≤ length segments
  pub few_frames : size.frames ≤ length frames

-- ---- a run

-- frames and segments in memory, which no fault stands behind
abbrev pub in_memory : List Captured → List Segment → Inputs
in_memory frames segments = record { frames = frames; capture_fault = None; segments = segments; control_fault = None }

-- these frames and segments were taken and these records said, and those are left
abbrev pub view_of : List Captured → List Segment → List Record → List Captured → List Segment → View Record
view_of passed history said frames segments = record { passed = passed; history = history; said = said; left = in_memory frames segments }

-- what is left may be run
pub record IsFit (setup : Parts) (frames : List Captured) (segments : List Segment) : Type 0 where
  pub limits : All IsWithinLimits frames
  pub of_peers : AreOfPeers setup.peers segments
  pub short : AreShort segments

-- Between two rounds: of all frames and segments these are left, the runner took the others, and what was said of them is counted.
pub record Along (setup : Parts) (whole : Inputs) (run : CountedRun) (frames : List Captured) (segments : List Segment) : Type 0 where
  pub passed : List Captured
  pub history : List Segment
  pub log : List Entry
  pub said : List Record
  pub frames_are : passed ++ frames ≡ whole.frames
  pub segments_are : history ++ segments ≡ whole.segments
  pub few_frames : length whole.frames ≤ 65536
  pub few_bytes : bytes_in whole.segments ≤ 2 ^ 40
  pub fit : IsFit setup frames segments
  pub setup_is : run.runner.setup ≡ setup
  pub stands : Stands run.runner history log
  pub hold : AllHold (bytes_in history) run.runner.control.sessions.sessions.items
  pub each : length said ≡ length passed
  pub leads : Leads (single_says setup) (view_at_first whole) (view_of passed history said frames segments)
  pub counted : run.summary ≡ summary_of passed said log
