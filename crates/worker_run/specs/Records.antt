-- What a run may say of a frame, by the changes of routes that were made.
use Rattle.std.specs.Prelude.{◌≡◌, ℕ, List, length, All}
use Rattle.std.specs.List.{AllZip}
use Rattle.pcap_io.specs.declared.frames.Captured.{Captured}
use Rattle.record_text.specs.declared.records.Record.{Record}
use Rattle.sfc_config.specs.Parts.{Parts}
use Rattle.sfc_routes.specs.declared.route_changes.RouteChange.{RouteChange}
use Rattle.forwarder.specs.Walks.{IsWalk, Walk}
use Rattle.forwarder.specs.Workspaces.{taken_in}
use Rattle.forwarder.specs.Records.{Tells}
use Rattle.control_histories.specs.Versions.{IsVersion}

-- the record tells the walk of its frame over the tables of the versions that it names, each after so many of the changes
pub record TellsWalk (setup : Parts) (changes : List RouteChange) (frame : Captured) (r : Record) : Type 0 where
  pub walk : Walk
  pub walks : IsWalk setup (taken_in frame.bytes frame.original) walk
  pub over : AllZip (λ v table. IsVersion setup.roster changes v table) r.versions.items walk.tables
  pub tells : Tells r walk

-- every version that it names is the last one
abbrev pub NamesOnly : ℕ → Record → Type 0
NamesOnly version r = All (λ v. v ≡ version) r.versions.items

-- on one thread: worker 0, and every version is the last that was made
pub record SingleRecord (setup : Parts) (changes : List RouteChange) (frame : Captured) (r : Record) : Type 0 where
  pub told : TellsWalk setup changes frame r
  pub newest : NamesOnly (length changes) r
  pub worker_is : r.worker ≡ 0
