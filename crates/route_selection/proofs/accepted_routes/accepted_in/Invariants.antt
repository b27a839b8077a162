-- The accepted ones of the routes so far.
use Rattle.std.proofs.Common.{take}
use Rattle.route_selection.specs.Accepted.{Accepted}
use Rattle.route_selection.proofs.accepted_routes.accepted_in.Given as goal

abbrev pub invariant-loop-i : goal.invariant-loop-i
invariant-loop-i l = Accepted l.roster (take l.i l.routes) l.accepted.items
