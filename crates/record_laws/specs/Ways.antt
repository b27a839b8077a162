-- What the records of a run say of the ways of its frames: how long a walk is, where its service index goes, and where a frame goes whose
-- path stays the same under way.
use Rattle.std.specs.Prelude.{ℕ, ◌≤◌, List, length, All}
use Rattle.std.specs.List.{AllZip}
use Rattle.control_files.specs.declared.segments.Segment.{Segment}
use Rattle.nsh_metadata.specs.declared.contexts.Context.{Context}
use Rattle.pcap_io.specs.declared.frames.Captured.{Captured}
use Rattle.path_selection.specs.Paths.{ServicePath}
use Rattle.path_selection.specs.Published.{Published}
use Rattle.record_text.specs.declared.records.Record.{Record}
use Rattle.classifier.specs.Verdicts.{Start}
use Rattle.classifier.specs.declared.verdicts.Verdict.TheVariants.{Path}
use Rattle.sfc_config.specs.Parts.{Parts}
use Rattle.sfc_routes.specs.Entries.{Entries}
use Rattle.sfc_routes.specs.declared.route_changes.RouteChange.{RouteChange}
use Rattle.forwarder.specs.Ways.{GoesStraight, IndexesFall, Unchanged, straight}
use Rattle.control_histories.specs.Logs.{changes_of}
use Rattle.control_histories.specs.Versions.{IsVersion}
use Rattle.worker_run.specs.Records.{TellsWalk}
use Rattle.worker_run.specs.Runs.{IsRun}

-- each is a version of the table, under its number
abbrev pub AreVersions : Entries → List RouteChange → List Published → Type 0
AreVersions roster changes known = All (λ (p : Published). IsVersion roster changes p.version p.table) known

-- The record names versions, and the table of every version from the first of them to the last has this path, under the record's
-- identifier: it is unchanged whichever of the versions are known.
abbrev pub IsUnchanged : Entries → List RouteChange → Record → ServicePath → Type 0
IsUnchanged roster changes r path = (known : List Published) → AreVersions roster changes known → Unchanged known r path

-- One frame's record: it tells the frame's walk, which has at most 63 turns, one at each station; it names at most 62 versions; the
-- service index never rises along the walk, and falls at every instance that passes the frame (RFC 8300, section 2.3); and where
-- the path of a frame that a rule puts on it is unchanged, the frame goes straight along it.
pub record TellsWay (setup : Parts) (changes : List RouteChange) (frame : Captured) (r : Record) : Type 0 where
  pub told : TellsWalk setup changes frame r
  pub turns : length told.walk.stations ≤ 63
  pub versions : length r.versions.items ≤ 62
  pub falls : IndexesFall told.walk.stations
  pub along : (path : ServicePath) (spi si ttl : ℕ) (context : Context) → IsUnchanged setup.roster changes r path
      → Start setup.rules frame.bytes (Path spi si ttl context) → GoesStraight (straight path.rows si) r.visits.items r.end

-- a run, each record of which tells the way of its frame
pub record IsToldRun (setup : Parts) (workers : ℕ) (frames : List Captured) (segments : List Segment) (records : List Record) : Type 0 where
  pub run : IsRun setup frames segments workers records
  pub ways : AllZip (TellsWay setup (changes_of run.log)) frames records
