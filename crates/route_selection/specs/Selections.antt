-- The paths that routes give, and the table of them (after RFC 9015, sections 3.2 and 7).
use Rattle.std.specs.Prelude.{◌≡◌, ℕ, List, [], ◌∷◌, map}
use Rattle.std.specs.List.{flat_map}
use Rattle.sfp_attribute.specs.declared.sfps.Part.{Part}
use Rattle.sfp_attribute.specs.declared.sfps.Part.TheVariants as part
use Rattle.sfc_routes.specs.Entries.{Entries}
use Rattle.sfc_routes.specs.PeerRoutes.{PeerRoute}
use Rattle.path_selection.specs.declared.hops.HopRow.{HopRow}
use Rattle.path_selection.specs.Paths.{ServicePath}
use Rattle.route_selection.specs.declared.candidates.Candidate.{Candidate}
use Rattle.route_selection.specs.Usable.{Usable}
use Rattle.route_selection.specs.Accepted.{PathRoute, Accepted, firsts}
use Rattle.route_selection.specs.Choices.{row_at}

-- a part of an SFP attribute that is a hop has a row
abbrev pub rows_for : List Candidate → ℕ → Part → List HopRow
rows_for usable spi (part.Association kind rd other) = []
rows_for usable spi (part.Hop si inside) = row_at usable spi si inside ∷ []
rows_for usable spi (part.Other kind body) = []

-- one row for each hop, in order
abbrev pub path_rows : List Candidate → ℕ → List Part → List HopRow
path_rows usable spi parts = flat_map (rows_for usable spi) parts

-- the path of a path route
abbrev pub path_at : List Candidate → PathRoute → ServicePath
path_at usable p = record { spi = p.spi; rows = path_rows usable p.spi p.sfp.parts }

-- The table has, in order of SPI, the path of each SPI for which there is an accepted SFPR: that of the one with the lowest RD.
pub record IsSelection (roster : Entries) (routes : List PeerRoute) (table : List ServicePath) : Type 0 where
  pub usable : List Candidate
  pub are_usable : Usable roster routes usable
  pub accepted : List PathRoute
  pub are_accepted : Accepted roster routes accepted
  pub paths : table ≡ map (path_at usable) (firsts 0 accepted)
