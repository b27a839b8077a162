-- What the routes of a routes text are, so far as their UPDATE needs it.
use Rattle.std.specs.Prelude.{◌≡◌, ◌≤◌, List, ℕ, length, filter}
use Rattle.std.specs.List.{AllByRecursion}
use Rattle.bgp_update.specs.Nlris.{NlriFits}
use Rattle.bgp_update.specs.Attributes.{HopFits}
use Rattle.sfc_routes.specs.declared.routes.Route.{Route}
use Rattle.sfc_routes.specs.PeerRoutes.{RouteFits}
use Rattle.sfc_routes.specs.Meanings.{is_target}
use Rattle.route_texts.specs.RouteTexts.{update_size}

-- an instance route or a path route, each part of which has a spelling, with route targets alone, and with an UPDATE of at most
-- 4,096 bytes
pub record IsAnnounceable (r : Route) : Type 0 where
  pub nlri : NlriFits r.nlri
  pub next_hop : HopFits r.next_hop
  pub octets : AllByRecursion (λ (t : List ℕ). length t ≡ 8) r.targets
  pub targets : filter is_target r.targets ≡ r.targets
  pub path : RouteFits r
  pub small : update_size r ≤ 4096
