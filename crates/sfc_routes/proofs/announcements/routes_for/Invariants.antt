-- The routes of those so far that are announced.
use Rattle.std.proofs.Common.{◌≡◌, take, filter, map}
use Rattle.sfc_routes.specs.Meanings.{is_announced, route_for}
use Rattle.sfc_routes.proofs.announcements.routes_for.Given as goal

abbrev pub invariant-loop-nlri : goal.invariant-loop-nlri
invariant-loop-nlri l = l.routes ≡ map (route_for l.reach.next_hop l.targets l.path) (filter (is_announced l.broken l.has_path) (take l.nlri-index l.nlris))
