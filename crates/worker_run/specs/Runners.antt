-- What a runner stands for, and what a round makes of it and of its batch.
use Rattle.std.specs.Prelude.{◌≡◌, ◌⊎◌, ℕ, true, false, List, ◌++◌, length}
use Rattle.std.specs.List.{AllZip}
use Rattle.control_files.specs.declared.segments.Segment.{Segment}
use Rattle.pcap_io.specs.declared.forms.Form.{Form}
use Rattle.record_text.specs.Lines.{Names}
use Rattle.session_machine.specs.Groups.{Entry}
use Rattle.sfc_config.specs.Parts.{Parts}
use Rattle.sfc_routes.specs.declared.route_changes.RouteChange.{RouteChange}
use Rattle.forwarder.specs.Walks.{functions_of}
use Rattle.control_histories.specs.Logs.{changes_of}
use Rattle.worker_run.specs.declared.runners.Runner.{Runner}
use Rattle.worker_run.specs.Batches.{Carried, frame_left, frames_in, records_in}
use Rattle.worker_run.specs.Deals.{AreDealt}
use Rattle.worker_run.specs.Records.{SingleRecord}
use Rattle.worker_run.specs.Rounds.{SaysSingle}
use Rattle.worker_run.specs.Runs.{RunRecord, SaysRun}
use Rattle.worker_run.specs.Outputs.{RepliesOf, egress_packets, packets_out}
use Rattle.worker_run.specs.Controls.{Publishes}

-- the runner, which has not failed, took these segments, with the effects of the log
pub record Stands (runner : Runner) (history : List Segment) (log : List Entry) : Type 0 where
  pub works : runner.failed ≡ false
  pub publishes : Publishes runner.setup runner.control runner.table history log

-- a runner stands for some segments, or it has failed
abbrev pub IsSound : Runner → Type 0
IsSound runner = (runner.failed ≡ true) ⊎ ((history : List Segment) × (log : List Entry) × Stands runner history log)

-- ---- a round

-- One frame of the batch: its record by the changes that were made, which names instances of the roster alone, and the frame that
-- its walk leaves.
pub record Carries (setup : Parts) (changes : List RouteChange) (old new : Carried) : Type 0 where
  pub single : SingleRecord setup changes old.frame new.outcome
  pub named : Names setup.roster new.outcome
  pub left : new.frame ≡ frame_left (functions_of setup.instances) old.frame new.outcome

-- A round on one thread: the runner took the segments, what these are answered comes behind the replies so far, and the batch has the
-- records that the round says, in order, and the frames as they are left.
pub record Rounded (runner : Runner) (history : List Segment) (log : List Entry) (segments : List Segment) (old new : List Carried) (replies : List ℕ) : Type 0 where
  pub now : List Entry
  pub stands : Stands runner (history ++ segments) (log ++ now)
  pub replies_are : RepliesOf (history ++ segments) (log ++ now) ≡ RepliesOf history log ++ replies
  pub each : AllZip (λ c d. Carries runner.setup (changes_of (log ++ now)) c d) old new
  pub says : SaysSingle runner.setup history segments (frames_in old) (records_in new)
  pub out : (form : Form) → egress_packets runner.setup form (frames_in old) (records_in new) ≡ packets_out form new

-- ---- a round on threads

-- One frame of the batch: its record by the changes that were made, between these bounds and by one of so many workers, which names
-- instances of the roster alone, and the frame that its walk leaves.
pub record RunCarries (setup : Parts) (changes : List RouteChange) (low high workers : ℕ) (old new : Carried) : Type 0 where
  pub recorded : RunRecord setup changes low high workers old.frame new.outcome
  pub named : Names setup.roster new.outcome
  pub left : new.frame ≡ frame_left (functions_of setup.instances) old.frame new.outcome

-- A round on threads: the runner took the segments, what these are answered comes behind the replies so far, and the batch has the
-- records that the round may say on so many workers, in order and dealt in shares, and the frames as they are left.
pub record RoundedOnThreads (runner : Runner) (history : List Segment) (log : List Entry) (segments : List Segment) (old new : List Carried) (replies : List ℕ) : Type 0 where
  pub now : List Entry
  pub stands : Stands runner (history ++ segments) (log ++ now)
  pub replies_are : RepliesOf (history ++ segments) (log ++ now) ≡ RepliesOf history log ++ replies
  pub each : AllZip (λ c d. RunCarries runner.setup (changes_of (log ++ now)) (length (changes_of log)) (length (changes_of (log ++ now))) runner.workers c d) old new
  pub says : SaysRun runner.setup runner.workers history segments (frames_in old) (records_in new)
  pub dealt : AreDealt runner.workers (records_in new)
  pub out : (form : Form) → egress_packets runner.setup form (frames_in old) (records_in new) ≡ packets_out form new
