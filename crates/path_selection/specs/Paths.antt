-- Service paths and the tables of them.
use Rattle.std.specs.Prelude.{ℕ, ◌+◌, ◌<◌, ◌≤◌, List, [], ◌∷◌}
use Rattle.path_selection.specs.declared.hops.HopRow.{HopRow}

-- a service path: its service path identifier and its hops
pub record ServicePath : Type 0 where
  pub spi : ℕ
  pub rows : List HopRow

-- the service indexes fall strictly, all below the top, and none is 0
abbrev pub FallsBelow : ℕ → List HopRow → Type 0
FallsBelow top [] = Unit {0}
FallsBelow top (row ∷ rows) = (row.si < top) × (0 < row.si) × FallsBelow row.si rows

-- The rows of a path: their service indexes, each of 8 bits, fall strictly, as the index of a packet falls at each function
-- (RFC 8300, section 2.3). That no row is for 0 is this project's own.
abbrev pub ArePathRows : List HopRow → Type 0
ArePathRows rows = FallsBelow 256 rows

-- the service path identifiers rise strictly from the least on, and each path's rows are those of a path
abbrev pub RisesFrom : ℕ → List ServicePath → Type 0
RisesFrom least [] = Unit {0}
RisesFrom least (path ∷ paths) = (least ≤ path.spi) × ArePathRows path.rows × RisesFrom (path.spi + 1) paths

-- a table: at most one path an identifier, in order of their identifiers
abbrev pub IsTable : List ServicePath → Type 0
IsTable paths = RisesFrom 0 paths
