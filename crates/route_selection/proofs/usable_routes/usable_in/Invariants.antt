-- The candidates of the routes so far.
use Rattle.std.proofs.Common.{take}
use Rattle.route_selection.specs.Usable.{Usable}
use Rattle.route_selection.proofs.usable_routes.usable_in.Given as goal

abbrev pub invariant-loop-i : goal.invariant-loop-i
invariant-loop-i l = Usable l.roster (take l.i l.routes) l.usable.items
