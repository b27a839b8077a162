-- The text of all versions of the table that the segments of a control file make, and that of a control file.
use Rattle.std.specs.Prelude.{◌≡◌, ℕ, ◌+◌, List, [], ◌∷◌, ◌++◌, Option}
use Rattle.control_files.specs.declared.segments.Segment.{Segment}
use Rattle.control_files.specs.declared.reasons.Refusal.{Refusal}
use Rattle.control_files.specs.Segments.{numbers}
use Rattle.control_files.specs.Reads.{ReadsControl}
use Rattle.sfc_routes.specs.declared.route_changes.RouteChange.{RouteChange}
use Rattle.sfc_routes.specs.Entries.{Entries}
use Rattle.session_machine.specs.Groups.{Entry}
use Rattle.path_selection.specs.Paths.{ServicePath}
use Rattle.record_text.specs.Tables.{table_text}
use Rattle.sfc_config.specs.Parts.{Parts}
use Rattle.control_histories.specs.Logs.{Heard, changes_of}
use Rattle.control_histories.specs.Versions.{TableAfter}

-- behind some changes, further ones: the table before the first of them, and then one after each
abbrev pub AreVersions : Entries → List RouteChange → List RouteChange → List (List ServicePath) → Type 0
AreVersions roster before changes [] = ⊥
AreVersions roster before [] (table ∷ tables) = TableAfter roster before table × (tables ≡ [])
AreVersions roster before (change ∷ changes) (table ∷ tables) = TableAfter roster before table × AreVersions roster (before ++ change ∷ []) changes tables

-- the texts of tables one behind the other, whose versions count up from this one
abbrev pub tables_text : Entries → ℕ → List (List ServicePath) → List ℕ
tables_text roster version [] = []
tables_text roster version (table ∷ tables) = table_text roster version table ++ tables_text roster (version + 1) tables

-- the text of the versions that changes make, from version 0, before the first of them, to the last
pub record VersionsText (roster : Entries) (changes : List RouteChange) (text : List ℕ) : Type 0 where
  pub tables : List (List ServicePath)
  pub versions : AreVersions roster [] changes tables
  pub text_is : text ≡ tables_text roster 0 tables

-- A reader of the bytes gets segments of the setup's peers and then this stop; the text is that of the versions which the
-- changes of the sessions make (RFC 4271, section 8; RFC 9015, section 7).
pub record Writes (setup : Parts) (input : List ℕ) (stop : Option Refusal) (text : List ℕ) : Type 0 where
  pub segments : List Segment
  pub reads : ReadsControl input (numbers setup.peers) segments stop
  pub log : List Entry
  pub heard : Heard setup.local setup.peers segments log
  pub versions : VersionsText setup.roster (changes_of log) text
