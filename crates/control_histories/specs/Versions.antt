-- The versions of the table of service paths: each change of routes makes one.
use Rattle.std.specs.Prelude.{ℕ, ◌≤◌, List, length, take}
use Rattle.sfc_routes.specs.declared.route_changes.RouteChange.{RouteChange}
use Rattle.sfc_routes.specs.Entries.{Entries}
use Rattle.sfc_routes.specs.PeerRoutes.{PeerRoute}
use Rattle.sfc_routes.specs.LastWords.{Stands}
use Rattle.sfc_routes.specs.RouteLists.{IsRouteList}
use Rattle.path_selection.specs.Paths.{ServicePath}
use Rattle.route_selection.specs.Selections.{IsSelection}

-- the table of the routes that stand after the changes
pub record TableAfter (roster : Entries) (changes : List RouteChange) (table : List ServicePath) : Type 0 where
  pub routes : List PeerRoute
  pub are_routes : IsRouteList routes
  pub stand : Stands routes changes
  pub selected : IsSelection roster routes table

-- version n is the table after the first n changes, where there are so many
pub record IsVersion (roster : Entries) (changes : List RouteChange) (n : ℕ) (table : List ServicePath) : Type 0 where
  pub made : n ≤ length changes
  pub table_is : TableAfter roster (take n changes) table
