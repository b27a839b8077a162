-- A text is written for every control file.
use Rattle.std.proofs.Common.{ℕ, List, [], ◌∷◌, ◌++◌, Option, append_assoc, refl, subst, sym}
use Rattle.std.specs.List.{AllByRecursion}
use Rattle.wire_base.specs.Numbers.{AreBytes}
use Rattle.control_files.specs.declared.reasons.Refusal.{Refusal}
use Rattle.control_files.specs.declared.segments.Segment.{Segment}
use Rattle.control_files.specs.Reads.{ReadsControl}
use Rattle.control_files.specs.Segments.{numbers}
use Rattle.sfc_config.specs.Parts.{AreParts, Parts}
use Rattle.sfc_routes.specs.Entries.{Entries}
use Rattle.sfc_routes.specs.PeerRoutes.{IsRouteChange}
use Rattle.sfc_routes.specs.declared.route_changes.RouteChange.{RouteChange}
use Rattle.sfc_routes.proofs.MemberLemmas.{all_front}
use Rattle.path_selection.specs.Paths.{ServicePath}
use Rattle.control_histories.specs.Logs.{changes_of}
use Rattle.history_laws.proofs.HistoryLemmas.{SomeLog, SomeTable, Taken, is_history}
use Rattle.paths_command.specs.VersionTexts.{AreVersions, Writes, tables_text}

abbrev pub SomeReading : Type 0
SomeReading = (bytes peers : List ℕ) → AreBytes bytes → (segments : List Segment) × (stop : Option Refusal) × ReadsControl bytes peers segments stop

-- before each change there is a table, and one behind the last
some_versions : SomeTable → (roster : Entries) (before changes : List RouteChange) → AllByRecursion IsRouteChange (before ++ changes) → (tables : List (List ServicePath)) × AreVersions roster before changes tables
some_versions some roster before [] fit =
    let table = some roster before (all_front IsRouteChange before [] fit) in
    (table.0 ∷ [], (table.1, refl))
some_versions some roster before (c ∷ changes) fit =
    let table = some roster before (all_front IsRouteChange before (c ∷ changes) fit) in
    let rest = some_versions some roster (before ++ c ∷ []) changes (subst (AllByRecursion IsRouteChange) (sym (append_assoc before (c ∷ []) changes)) fit) in
    (table.0 ∷ rest.0, (table.1, rest.1))

pub some_text : SomeReading → SomeLog → Taken → SomeTable → (setup : Parts) (input : List ℕ) → AreParts setup → AreBytes input → (stop : Option Refusal) × (text : List ℕ) × Writes setup input stop text
some_text some some_log taken some_table setup input parts are =
    let read = some input (numbers setup.peers) are in
    let history = is_history setup.peers input read.0 read.1 are read.2 in
    let log = some_log setup.local setup.peers read.0 parts.peers_differ history.of_peers history.bytes in
    let versions = some_versions some_table setup.roster [] (changes_of log.0) (taken setup.local setup.peers read.0 log.0 history.of_peers log.1) in (
      read.1,
      tables_text setup.roster 0 versions.0,
      record { segments = read.0; reads = read.2; log = log.0; heard = log.1; versions = record { tables = versions.0; versions = versions.1; text_is = refl } },
    )
