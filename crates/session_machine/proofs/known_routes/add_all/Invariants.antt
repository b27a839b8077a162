-- the routes with those that have come so far
use Rattle.std.proofs.Common.{◌≡◌, take}
use Rattle.session_machine.specs.KnownRoutes.{with_all}
use Rattle.session_machine.proofs.known_routes.add_all.Given as goal

abbrev pub invariant-loop-route : goal.invariant-loop-route
invariant-loop-route l = l.known ≡ with_all l.initial.known (take l.route-index l.announced)
