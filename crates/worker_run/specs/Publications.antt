-- The versions of the table that a round makes, each by what changed in the one before; no public clause stands on it.
use Rattle.std.specs.Prelude.{◌≡◌, ℕ, List, [], ◌∷◌, ◌++◌, Option, Some, None}
use Rattle.control_files.specs.declared.segments.Segment.{Segment}
use Rattle.path_selection.specs.declared.changes.Change.{Change}
use Rattle.path_selection.specs.Paths.{ServicePath}
use Rattle.session_machine.specs.Groups.{Entry}
use Rattle.sfc_routes.specs.Entries.{Entries}
use Rattle.sfc_routes.specs.declared.route_changes.RouteChange.{RouteChange}
use Rattle.table_publish.specs.Publications.{after, changed_by}
use Rattle.control_histories.specs.Logs.{changes_of}
use Rattle.control_histories.specs.Versions.{TableAfter}
use Rattle.worker_run.specs.declared.controls.Control.{Control}
use Rattle.worker_run.specs.declared.versions.Versions.{Versions}
use Rattle.worker_run.specs.Controls.{Took}

-- the table is that after the changes of routes, and each list of its own changes makes the one after one change of routes more
abbrev pub AreVersions : Entries → List RouteChange → List RouteChange → List ServicePath → List (List Change) → Type 0
AreVersions roster changes [] table [] = TableAfter roster changes table
AreVersions roster changes [] table (list ∷ lists) = ⊥
AreVersions roster changes (change ∷ more) table [] = ⊥
AreVersions roster changes (change ∷ more) table (list ∷ lists) = TableAfter roster changes table × AreVersions roster (changes ++ change ∷ []) more (changed_by table list) lists

-- the last of some versions, or the table before them
abbrev pub latest : List ServicePath → Option (List ServicePath) → List ServicePath
latest opening None = opening
latest opening (Some table) = table

-- a version more: the table after these changes
pub record AddsOne (roster : Entries) (changes : List RouteChange) (opening : List ServicePath) (old new : Versions) : Type 0 where
  pub list : List Change
  pub lists_are : new.lists.items ≡ old.lists.items ++ list ∷ []
  pub last_is : latest opening new.last ≡ changed_by (latest opening old.last) list
  pub table_is : TableAfter roster changes (latest opening new.last)

-- a version for each further change
pub record Adds (roster : Entries) (changes more : List RouteChange) (opening : List ServicePath) (old new : Versions) : Type 0 where
  pub made : List (List Change)
  pub lists_are : new.lists.items ≡ old.lists.items ++ made
  pub are : AreVersions roster changes more (latest opening old.last) made
  pub last_is : latest opening new.last ≡ after (latest opening old.last) made

-- the control side took the segments, and made a version for each change of routes that they gave
pub record TookEach (roster : Entries) (opening : List ServicePath) (control : Control) (history : List Segment) (log : List Entry) (segments : List Segment) (before after : List ℕ) (old new : Versions) : Type 0 where
  pub took : Took control history log segments before after
  pub adds : Adds roster (changes_of log) (changes_of took.now) opening old new
