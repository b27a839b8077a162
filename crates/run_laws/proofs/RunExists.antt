-- Every round says something, and every two inputs have a run.
use Rattle.std.proofs.Common.{◌≡◌, ℕ, List, [], ◌∷◌, ◌++◌, All, arith, length, refl, replicate, subst, sym}
use Rattle.std.specs.List.{AllZip}
use Rattle.std.proofs.lemmas.List.{get_or-replicate, length-replicate, take_all}
use Rattle.control_files.specs.declared.segments.Segment.{Segment}
use Rattle.net_frames.specs.Captured.{Captured as Framed}
use Rattle.pcap_io.specs.declared.frames.Captured.{Captured}
use Rattle.record_text.specs.declared.records.Record.{Record}
use Rattle.sfc_config.specs.Parts.{AreParts, Parts}
use Rattle.sfc_routes.specs.Entries.{Entries}
use Rattle.sfc_routes.specs.declared.route_changes.RouteChange.{RouteChange}
use Rattle.path_selection.specs.Paths.{ServicePath}
use Rattle.rounds.specs.Rounds.{Round, Rounds, segments_of}
use Rattle.rounds.specs.Says.{IsSayable, Lines}
use Rattle.rounds.proofs.EndLemmas.{some_lines}
use Rattle.forwarder.specs.Walks.{IsWalk, Walk}
use Rattle.forwarder.specs.Workspaces.{taken_in}
use Rattle.control_histories.specs.Logs.{AreOfPeers, changes_of}
use Rattle.control_histories.specs.Versions.{IsVersion, TableAfter}
use Rattle.worker_run.specs.Records.{SingleRecord}
use Rattle.worker_run.specs.Rounds.{SaysSingle}
use Rattle.worker_run.specs.Runs.{IsSingle, single_says}
use Rattle.worker_run.proofs.RunLemmas.{all_taken}
use Rattle.history_laws.specs.Histories.{IsHistory}
use Rattle.history_laws.proofs.HistoryLemmas.{SomeLog, SomeTable, Taken, history_front}
use Rattle.run_laws.specs.Lookups.{AreFirst}

-- ---- what the laws below say

abbrev pub SomeWalk : Type 0
SomeWalk = (setup : Parts) (frame : Framed) (at : ℕ → List ServicePath) → (walk : Walk) × IsWalk setup frame walk × AreFirst at walk.tables

pub record Laws : Type 0 where
  pub walk : SomeWalk
  pub log : SomeLog
  pub taken : Taken
  pub table : SomeTable

-- ---- one frame

-- every lookup sees the last version
all_last : (roster : Entries) (changes : List RouteChange) (table : List ServicePath) (tables : List (List ServicePath)) → TableAfter roster changes table → AreFirst (λ k. table) tables
    → AllZip (λ v t. IsVersion roster changes v t) (replicate (length tables) (length changes)) tables
all_last roster changes table [] after first = tt
all_last roster changes table (t ∷ ts) after first = (
  record {
    made = omega arith;
    table_is = subst (λ (cs : List RouteChange). TableAfter roster cs t) (sym (take_all (length changes) changes (omega arith))) (subst (TableAfter roster changes) (sym first.0) after);
  },
  all_last roster changes table ts after first.1,
)

names_last : (n version : ℕ) → All (λ (v : ℕ). v ≡ version) (replicate n version)
names_last n version = λ k d lt. let few = length-replicate n version in get_or-replicate n k version d (omega (arith, lt, few))

abbrev record_told : Walk → ℕ → Record
record_told walk version = record {
  worker = 0;
  path = walk.path;
  versions = record { items = replicate (length walk.tables) version };
  visits = record { items = walk.visits };
  end = walk.end;
}

pub some_record : SomeWalk → (setup : Parts) (changes : List RouteChange) (table : List ServicePath) (frame : Captured) → TableAfter setup.roster changes table → (r : Record) × SingleRecord setup changes frame r
some_record some setup changes table frame after =
    let walk = some setup (taken_in frame.bytes frame.original) (λ k. table) in (
      record_told walk.0 (length changes),
      record {
        told = record {
          walk = walk.0;
          walks = walk.1;
          over = all_last setup.roster changes table walk.0.tables after walk.2;
          tells = record { path = refl; visits = refl; end = refl };
        };
        newest = names_last (length walk.0.tables) (length changes);
        worker_is = refl;
      },
    )

-- ---- one round

some_records : SomeWalk → (setup : Parts) (changes : List RouteChange) (table : List ServicePath) (frames : List Captured) → TableAfter setup.roster changes table
    → (records : List Record) × AllZip (λ frame r. SingleRecord setup changes frame r) frames records
some_records some setup changes table [] after = ([], tt)
some_records some setup changes table (frame ∷ frames) after =
    let first = some_record some setup changes table frame after in
    let rest = some_records some setup changes table frames after in
    (first.0 ∷ rest.0, (first.1, rest.1))

pub some_saying : Laws → (setup : Parts) (history segments : List Segment) (frames : List Captured) → AreParts setup → IsHistory setup.peers (history ++ segments)
    → (records : List Record) × SaysSingle setup history segments frames records
some_saying laws setup history segments frames parts is =
    let log = laws.log setup.local setup.peers (history ++ segments) parts.peers_differ is.of_peers is.bytes in
    let table = laws.table setup.roster (changes_of log.0) (laws.taken setup.local setup.peers (history ++ segments) log.0 is.of_peers log.1) in
    let each = some_records laws.walk setup (changes_of log.0) table.0 frames table.1 in
    (each.0, record { log = log.0; heard = log.1; each = each.1 })

-- ---- all rounds

abbrev pub SomeSaying : Type 0
SomeSaying = (setup : Parts) (history segments : List Segment) (frames : List Captured) → AreParts setup → IsHistory setup.peers (history ++ segments)
    → (records : List Record) × SaysSingle setup history segments frames records

pub sayable : SomeSaying → (setup : Parts) → AreParts setup → IsSayable (single_says setup) (IsHistory setup.peers)
sayable some setup parts = record {
  front = history_front setup.peers;
  some = λ history r fits. some setup history r.segments r.frames parts fits;
}

abbrev pub SingleOfRounds : Type 0
SingleOfRounds = (setup : Parts) (frames : List Captured) (segments : List Segment) (rounds : List Round) (records : List Record) → AreOfPeers setup.peers segments
    → Rounds 0 frames segments rounds → Lines (single_says setup) [] rounds records → IsSingle setup frames segments records

abbrev pub SomeRounds : Type 0
SomeRounds = (frames : List Captured) (segments : List Segment) → (rounds : List Round) × Rounds 0 frames segments rounds

pub some_single : SomeSaying → SomeRounds → SingleOfRounds → (setup : Parts) (frames : List Captured) (segments : List Segment) → AreParts setup → IsHistory setup.peers segments
    → (records : List Record) × IsSingle setup frames segments records
some_single some rounds single setup frames segments parts is =
    let rs = rounds frames segments in
    let all : IsHistory setup.peers (segments_of rs.0) = subst (IsHistory setup.peers) (all_taken 0 frames segments rs.0 rs.1) is in
    let lines = some_lines (single_says setup) (IsHistory setup.peers) (sayable some setup parts) [] rs.0 all in
    (lines.0, single setup frames segments rs.0 lines.0 is.of_peers rs.1 lines.1)
