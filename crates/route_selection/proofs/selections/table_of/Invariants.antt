-- The paths so far, and those of the path routes that are left.
use Rattle.std.proofs.Common.{◌≡◌, ◌<◌, ◌++◌, drop, map}
use Rattle.std.specs.List.{AllByRecursion}
use Rattle.path_selection.specs.Paths.{ServicePath}
use Rattle.route_selection.specs.Accepted.{firsts}
use Rattle.route_selection.specs.Selections.{path_at}
use Rattle.route_selection.proofs.selections.table_of.Given as goal

abbrev pub invariant-loop-entry : goal.invariant-loop-entry
invariant-loop-entry l =
    (l.table ++ map (path_at l.usable) (firsts l.least (drop l.entry-index l.accepted)) ≡ map (path_at l.usable) (firsts 0 l.accepted))
    × AllByRecursion (λ (path : ServicePath). path.spi < l.least) l.table
