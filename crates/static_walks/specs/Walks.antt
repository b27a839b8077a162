-- The walk of a frame over a static path: a walk as every other (RFC 7665, section 4; RFC 8300, sections 2.2 and 2.3), from the
-- first station of the path, over lookups that each see the same table. There is no setup, so each instance passes every frame.
use Rattle.std.specs.Prelude.{◌≡◌, ℕ, zero, suc, ◌-◌, List, [], ◌∷◌, Some, replicate}
use Rattle.wire_base.specs.declared.ids.ForwarderId.{ForwarderId}
use Rattle.wire_base.specs.declared.ids.InstanceId.{InstanceId}
use Rattle.net_frames.specs.Captured.{Captured}
use Rattle.nsh_metadata.specs.Header.{Header}
use Rattle.nsh_metadata.specs.declared.contexts.Context.TheVariants.{Items}
use Rattle.path_selection.specs.Paths.{ServicePath}
use Rattle.path_selection.specs.declared.hops.HopRow.{HopRow}
use Rattle.record_text.specs.declared.records.End.{End}
use Rattle.classifier.specs.Stations.{Station, first_header, first_station}
use Rattle.forwarder.specs.Walks.{WalkFrom}

-- ---- the path

-- the one forwarder of a static path
abbrev pub here : ForwarderId
here = record { 0 = 0 }

-- hop k of a static path: index 255 - k, by instance k
abbrev pub static_row : ℕ → HopRow
static_row k = record { si = 255 - k; choice = Some (here, record { 0 = k }) }

-- the hops from hop k on
abbrev pub static_rows : ℕ → ℕ → List HopRow
static_rows k zero = []
static_rows k (suc more) = static_row k ∷ static_rows (suc k) more

-- the table with one path of this many functions that pass, at one forwarder
abbrev pub static_table : ℕ → ℕ → List ServicePath
static_table spi count = record { spi = spi; rows = static_rows 0 count } ∷ []

-- ---- the walk

-- the header of a frame that begins on a static path: TTL 63, SI 255, and no item of metadata
abbrev pub static_header : ℕ → Header
static_header spi = first_header spi 255 63 (Items [])

-- From the station on, a walk ends so: no instance has a function of a setup, and each of its lookups sees the path's table.
pub record WalksOn (spi count : ℕ) (s : Station) (end : End) : Type 0 where
  pub later : List Station
  pub lookups : ℕ
  pub visits : List InstanceId
  pub walk : WalkFrom [] s later (replicate lookups (static_table spi count)) end visits

-- the frame's walk over the static path ends so
abbrev pub WalksTo : ℕ → ℕ → Captured → End → Type 0
WalksTo spi count frame end = WalksOn spi count (first_station here frame (static_header spi)) end

-- so ends the walk of each captured frame with these bytes, whatever its room and its length on the wire
abbrev pub EachWalksTo : ℕ → ℕ → List ℕ → End → Type 0
EachWalksTo spi count bytes end = (frame : Captured) → frame.bytes ≡ bytes → WalksTo spi count frame end
