-- The summary of a run: what is counted of its frames, and the last version of the table.
use Rattle.std.specs.Prelude.{◌≡◌, ℕ, Bool, not, List, [], ◌∷◌, ◌++◌, length, codes, decimal}
use Rattle.std.specs.List.{filter}
use Rattle.control_files.specs.declared.segments.Segment.{Segment}
use Rattle.pcap_io.specs.declared.frames.Captured.{Captured}
use Rattle.record_text.specs.declared.records.Record.{Record}
use Rattle.session_machine.specs.Groups.{Entry}
use Rattle.sfc_config.specs.Parts.{Parts}
use Rattle.control_histories.specs.Logs.{Heard, changes_of}
use Rattle.worker_run.specs.Outputs.{goes_out}
use Rattle.worker_run.specs.Runs.{IsSingle}
use Rattle.generated_inputs.specs.Inputs.{IsGenerated}
use Rattle.generate_command.specs.declared.summaries.Summary.{Summary}

-- the frame of the record goes out, or is dropped
abbrev pub goes : Record → Bool
goes r = goes_out r.end

abbrev pub drops : Record → Bool
drops r = not (goes_out r.end)

-- what is counted of some frames, of which these records are said, where the segments have the effects of the log: each change of
-- routes makes a version
abbrev pub summary_of : List Captured → List Record → List Entry → Summary
summary_of frames records log = record {
  frames = length frames;
  egress = length (filter goes records);
  dropped = length (filter drops records);
  last_version = length (changes_of log);
}

-- the summary is that of the run on one thread over the inputs from a seed, with so many frames
pub record Counted (seed count : ℕ) (summary : Summary) : Type 0 where
  pub setup : Parts
  pub frames : List Captured
  pub segments : List Segment
  pub generated : IsGenerated seed count setup frames segments
  pub records : List Record
  pub run : IsSingle setup frames segments records
  pub log : List Entry
  pub heard : Heard setup.local setup.peers segments log
  pub summary_is : summary ≡ summary_of frames records log

-- a label and a number
unfoldable pub labelled : List ℕ → ℕ → List ℕ
labelled label number = label ++ decimal number

-- its line
abbrev pub summary_text : Summary → List ℕ
summary_text s =
    labelled (codes "frames=") s.frames ++ labelled (codes " egress=") s.egress ++ labelled (codes " dropped=") s.dropped ++ labelled (codes " last-version=") s.last_version ++ 10 ∷ []
