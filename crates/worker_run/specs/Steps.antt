-- What forwarding a frame over one table leaves, and what a round does; no public clause stands on it.
use Rattle.std.specs.Prelude.{◌≡◌, ℕ, List, ◌++◌, length}
use Rattle.std.specs.List.{AllZip}
use Rattle.control_files.specs.declared.segments.Segment.{Segment}
use Rattle.session_machine.specs.Groups.{Entry}
use Rattle.sfc_config.specs.Parts.{Parts}
use Rattle.path_selection.specs.Paths.{ServicePath}
use Rattle.forwarder.specs.Walks.{IsWalk, Walk, functions_of}
use Rattle.forwarder.specs.Workspaces.{taken_in}
use Rattle.forwarder.specs.Records.{Tells}
use Rattle.control_histories.specs.Happenings.{Logs}
use Rattle.control_histories.specs.Logs.{changes_of}
use Rattle.control_histories.specs.Replies.{reply_bytes}
use Rattle.worker_run.specs.Deals.{AreDealt}
use Rattle.worker_run.specs.declared.controls.Control.{Control}
use Rattle.worker_run.specs.Batches.{Carried, frame_left, records_in}
use Rattle.worker_run.specs.Controls.{Publishes}
use Rattle.worker_run.specs.Runners.{RunCarries}
use Rattle.worker_run.specs.Runs.{WorkersClimb}

-- the record tells a walk of the frame over this table alone, under this version, as worker 0, and the frame is as the walk leaves it
pub record Forwards (setup : Parts) (version : ℕ) (table : List ServicePath) (old new : Carried) : Type 0 where
  pub walk : Walk
  pub walks : IsWalk setup (taken_in old.frame.bytes old.frame.original) walk
  pub over : AllZip (λ v t. (v ≡ version) × (t ≡ table)) new.outcome.versions.items walk.tables
  pub tells : Tells new.outcome walk
  pub worker_is : new.outcome.worker ≡ 0
  pub left : new.frame ≡ frame_left (functions_of setup.instances) old.frame new.outcome

-- the control side took the segments, and every frame was forwarded over the table after them, under its version
pub record Ran (setup : Parts) (control : Control) (table : List ServicePath) (history : List Segment) (log : List Entry) (segments : List Segment) (old new : List Carried) (replies : List ℕ) : Type 0 where
  pub now : List Entry
  pub logs : Logs segments now
  pub publishes : Publishes setup control table (history ++ segments) (log ++ now)
  pub replies_are : replies ≡ reply_bytes segments now
  pub each : AllZip (Forwards setup (length (changes_of (log ++ now))) table) old new

-- the control side took the segments, and every frame was forwarded by one of so many workers, over the versions of the round
pub record RanOnThreads (setup : Parts) (workers : ℕ) (control : Control) (table : List ServicePath) (history : List Segment) (log : List Entry) (segments : List Segment) (old new : List Carried) (replies : List ℕ) : Type 0 where
  pub now : List Entry
  pub logs : Logs segments now
  pub publishes : Publishes setup control table (history ++ segments) (log ++ now)
  pub replies_are : replies ≡ reply_bytes segments now
  pub each : AllZip (λ c d. RunCarries setup (changes_of (log ++ now)) (length (changes_of log)) (length (changes_of (log ++ now))) workers c d) old new
  pub climb : WorkersClimb (records_in new)
  pub dealt : AreDealt workers (records_in new)
