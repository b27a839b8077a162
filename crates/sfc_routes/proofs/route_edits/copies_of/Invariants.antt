-- The copies are those of the routes so far.
use Rattle.std.proofs.Common.{◌≡◌, take}
use Rattle.sfc_routes.specs.RouteLists.{peer_routes}
use Rattle.sfc_routes.proofs.route_edits.copies_of.Given as goal

abbrev pub invariant-loop-route : goal.invariant-loop-route
invariant-loop-route l = l.fresh.items ≡ peer_routes l.change.peer (take l.route-index l.routes)
