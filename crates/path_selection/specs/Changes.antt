-- What a change makes of a table.
use Rattle.std.specs.Prelude.{ℕ, nat_lt, List, ◌∷◌, ◌++◌, filter}
use Rattle.path_selection.specs.declared.changes.Change.{Change}
use Rattle.path_selection.specs.declared.changes.Change.TheVariants.{Put, Cut}
use Rattle.path_selection.specs.Paths.{ServicePath}

-- the paths with smaller identifiers
abbrev pub below : ℕ → List ServicePath → List ServicePath
below spi table = filter (λ (path : ServicePath). nat_lt path.spi spi) table

-- the paths with greater identifiers
abbrev pub above : ℕ → List ServicePath → List ServicePath
above spi table = filter (λ (path : ServicePath). nat_lt spi path.spi) table

abbrev pub changed : List ServicePath → Change → List ServicePath
-- the path stands in place of the one with its identifier, if there was one, and all others stay
changed table (Put path) = below path.spi table ++ path ∷ above path.spi table
-- all paths but the one with the identifier stay
changed table (Cut spi) = below spi table ++ above spi table
