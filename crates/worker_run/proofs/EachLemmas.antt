-- The control side over segments, with a version for each change of routes.
use Rattle.std.proofs.Common.{◌≡◌, ℕ, List, [], ◌∷◌, ◌++◌, sym, subst, append-nil}
use Rattle.control_files.specs.declared.segments.Segment.{Segment}
use Rattle.session_machine.specs.Groups.{Entry}
use Rattle.sfc_routes.specs.Entries.{Entries}
use Rattle.sfc_routes.specs.declared.route_changes.RouteChange.{RouteChange}
use Rattle.path_selection.specs.Paths.{ServicePath}
use Rattle.control_histories.specs.Logs.{changes_of}
use Rattle.control_histories.specs.Versions.{TableAfter}
use Rattle.worker_run.specs.declared.controls.Control.{Control}
use Rattle.worker_run.specs.declared.versions.Versions.{Versions}
use Rattle.worker_run.specs.Controls.{Follows}
use Rattle.worker_run.specs.Publications.{Adds, TookEach, latest}
use Rattle.worker_run.proofs.ControlLemmas.{took_more, took_none}
use Rattle.worker_run.proofs.RoundLemmas.{changes_behind}
use Rattle.worker_run.proofs.VersionLemmas.{adds_more, adds_none, last_version}

pub each_none : (roster : Entries) (opening : List ServicePath) (control : Control) (history : List Segment) (log : List Entry) (replies : List ℕ) (v : Versions) → Follows control history log
    → TableAfter roster (changes_of log) (latest opening v.last) → TookEach roster opening control history log [] replies replies v v
each_none roster opening control history log replies v x table = record { took = took_none control history log replies x; adds = adds_none roster (changes_of log) opening v table }

-- the table of the last version
pub each_table : (roster : Entries) (opening : List ServicePath) (control : Control) (history : List Segment) (log : List Entry) (segments : List Segment) (before after : List ℕ) (v w : Versions)
    → (x : TookEach roster opening control history log segments before after v w) → TableAfter roster (changes_of (log ++ x.took.now)) (latest opening w.last)
each_table roster opening control history log segments before after v w x =
    let last = (last_version roster (changes_of log) (changes_of x.took.now) (latest opening v.last) x.adds.made x.adds.are).0 in
    subst (λ (l : List RouteChange). TableAfter roster l (latest opening w.last)) (sym (changes_behind log x.took.now))
    (subst (TableAfter roster (changes_of log ++ changes_of x.took.now)) (sym x.adds.last_is) last)

pub each_more : (roster : Entries) (opening : List ServicePath) (mid new : Control) (history : List Segment) (log : List Entry) (s : Segment) (ss : List Segment) (first between last : List ℕ) (u v w : Versions)
    → (x : TookEach roster opening mid history log (s ∷ []) first between u v) → TookEach roster opening new (history ++ s ∷ []) (log ++ x.took.now) ss between last v w
    → TookEach roster opening new history log (s ∷ ss) first last u w
each_more roster opening mid new history log s ss first between last u v w x y =
    let here = x.took.now in
    let later = y.took.now in
    let rest : Adds roster (changes_of log ++ changes_of here) (changes_of later) opening v w = subst (λ (l : List RouteChange). Adds roster l (changes_of later) opening v w) (changes_behind log here) y.adds in
    record {
      took = took_more new history log s ss first between last mid x.took y.took;
      adds = subst (λ (l : List RouteChange). Adds roster (changes_of log) l opening u w) (sym (changes_behind here later)) (adds_more roster (changes_of log) (changes_of here) (changes_of later) opening u v w x.adds rest);
    }

-- the changes of one entry
pub changes_one : (e : Entry) → changes_of (e ∷ []) ≡ e.effects.changes
changes_one e = append-nil e.effects.changes
