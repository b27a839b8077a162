-- A runner that has not failed stands for some segments, and may take more; how it begins.
use Rattle.std.proofs.Common.{◌≡◌, ℕ, true, false, List, [], ◌++◌, refl, sym, subst, ◌∙◌, inl, inr}
use Rattle.control_files.specs.declared.segments.Segment.{Segment}
use Rattle.session_machine.specs.Groups.{Entry, StandAll}
use Rattle.sfc_config.specs.Parts.{Parts}
use Rattle.sfc_routes.specs.LastWords.{Stands as AreAfter}
use Rattle.path_selection.specs.Paths.{ServicePath}
use Rattle.control_histories.specs.Logs.{AreOfPeers, AreWith}
use Rattle.control_histories.specs.Versions.{TableAfter}
use Rattle.control_histories.proofs.TableLemmas.{empty_table}
use Rattle.worker_run.specs.declared.controls.Control.{Control}
use Rattle.worker_run.specs.declared.runners.Runner.{Runner}
use Rattle.worker_run.specs.Batches.{Carried}
use Rattle.worker_run.specs.Controls.{AreShort, FollowsSome, HasRoomFor, Publishes, Ready}
use Rattle.worker_run.specs.Runners.{IsSound, Rounded, Stands}

pub stands_some : (r : Runner) → IsSound r → r.failed ≡ false → (history : List Segment) × (log : List Entry) × Stands r history log
stands_some r (inl failed) works = let never : true ≡ false = sym failed ∙ works in absurd (cc)
stands_some r (inr x) works = x

pub ready : (r : Runner) (segments : List Segment) → IsSound r → r.failed ≡ false → AreOfPeers r.setup.peers segments → AreShort segments → HasRoomFor r.control segments → Ready r.control segments
ready r segments sound works of_peers short room =
    let x = stands_some r sound works in
    record { local = r.setup.local; peers = r.setup.peers; with_peers = x.2.publishes.with_peers; of_peers = of_peers; short = short; room = room }

pub follows_some : (r : Runner) → IsSound r → r.failed ≡ false → FollowsSome r.control
follows_some r sound works = let x = stands_some r sound works in (x.0, x.1, x.2.publishes.follows)

-- after a round too
pub sound_after : (runner : Runner) (history : List Segment) (log : List Entry) (segments : List Segment) (old new : List Carried) (replies : List ℕ) → Rounded runner history log segments old new replies → IsSound runner
sound_after runner history log segments old new replies x = inr (history ++ segments, log ++ x.now, x.stands)

pub begins : (setup : Parts) (control : Control) (table : List ServicePath) → AreWith control.sessions setup.local setup.peers → StandAll control.sessions [] → AreAfter control.routes [] → control.version ≡ 0 → table ≡ []
    → Publishes setup control table [] []
begins setup control table with_peers stand routes version none = record {
  with_peers = with_peers;
  follows = record { hears = record { stands = stand; in_order = refl }; routes = routes; version = version };
  table_is = subst (TableAfter setup.roster []) (sym none) (empty_table setup.roster);
}
