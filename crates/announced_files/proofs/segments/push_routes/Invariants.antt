-- The UPDATEs of the routes so far.
use Rattle.std.proofs.Common.{◌≡◌, ◌++◌, map, take}
use Rattle.sfc_routes.specs.declared.routes.Route.{Route}
use Rattle.announced_files.specs.Announcements.{announcing}
use Rattle.announced_files.specs.Announced.{said}
use Rattle.announced_files.proofs.segments.push_routes.Given as goal

abbrev pub invariant-loop-route : goal.invariant-loop-route
invariant-loop-route l = l.segments ≡ l.initial.segments ++ map (λ (r : Route). said l.peer (announcing l.own l.peer_as r)) (take l.route-index l.routes)
