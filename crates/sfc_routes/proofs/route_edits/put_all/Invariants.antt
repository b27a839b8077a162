-- What comes of the list by the routes that are left, comes of it by all of them.
use Rattle.std.proofs.Common.{◌≤◌, ◌+◌, List, reverse, vec_len, vec_capacity}
use Rattle.std.specs.List.{AllByRecursion}
use Rattle.sfc_routes.specs.PeerRoutes.{PeerRoute, RouteFits}
use Rattle.sfc_routes.specs.RouteLists.{IsRouteList, PutsAll}
use Rattle.sfc_routes.proofs.route_edits.put_all.Given as goal

abbrev pub invariant-loop-held : goal.invariant-loop-held
invariant-loop-held l =
    IsRouteList l.entries.items
    × AllByRecursion (λ (e : PeerRoute). RouteFits e.route) l.fresh.items
    × (vec_len l.entries + vec_len l.fresh ≤ vec_capacity l.entries)
    × ((end : List PeerRoute) → PutsAll (reverse l.fresh.items) l.entries.items end → PutsAll (reverse l.initial.fresh.items) l.initial.entries.items end)

abbrev pub decreases-loop-held : goal.decreases-loop-held
decreases-loop-held l = vec_len l.fresh
