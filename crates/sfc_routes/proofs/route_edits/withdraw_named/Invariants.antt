-- The routes of the names so far are gone.
use Rattle.std.proofs.Common.{◌≡◌, ◌≤◌, take, vec_len, vec_capacity}
use Rattle.sfc_routes.specs.RouteLists.{IsRouteList, LosesNamed}
use Rattle.sfc_routes.proofs.route_edits.withdraw_named.Given as goal

abbrev pub invariant-loop-nlri : goal.invariant-loop-nlri
invariant-loop-nlri l =
    IsRouteList l.entries.items
    × LosesNamed l.peer (take l.nlri-index l.nlris) l.fn.entries.items l.entries.items
    × (vec_len l.entries ≤ vec_len l.fn.entries)
    × (vec_capacity l.entries ≡ vec_capacity l.fn.entries)
