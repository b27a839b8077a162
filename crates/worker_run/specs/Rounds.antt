-- What a round says: one record for each of its frames, in order.
use Rattle.std.specs.Prelude.{List, ◌++◌}
use Rattle.std.specs.List.{AllZip}
use Rattle.control_files.specs.declared.segments.Segment.{Segment}
use Rattle.pcap_io.specs.declared.frames.Captured.{Captured}
use Rattle.record_text.specs.declared.records.Record.{Record}
use Rattle.sfc_config.specs.Parts.{Parts}
use Rattle.session_machine.specs.Groups.{Entry}
use Rattle.control_histories.specs.Logs.{Heard, changes_of}
use Rattle.worker_run.specs.Records.{SingleRecord}

-- On one thread, behind a history of segments: every frame is forwarded over the table after all segments of its round.
pub record SaysSingle (setup : Parts) (history : List Segment) (segments : List Segment) (frames : List Captured) (records : List Record) : Type 0 where
  pub log : List Entry
  pub heard : Heard setup.local setup.peers (history ++ segments) log
  pub each : AllZip (λ frame r. SingleRecord setup (changes_of log) frame r) frames records
