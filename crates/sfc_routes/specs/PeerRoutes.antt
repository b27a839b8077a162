-- Routes as peers announce them (after RFC 9015, section 3).
use Rattle.std.specs.Prelude.{◌≡◌, ℕ, Option, Some, None}
use Rattle.std.specs.List.{AllByRecursion}
use Rattle.bgp_update.specs.declared.routes.Nlri.{Nlri}
use Rattle.bgp_update.specs.declared.routes.Nlri.TheVariants as nlris
use Rattle.sfp_attribute.specs.declared.sfps.Sfp.{Sfp}
use Rattle.sfp_attribute.specs.Sfps.{SfpFits}
use Rattle.sfc_routes.specs.declared.routes.Route.{Route}
use Rattle.sfc_routes.specs.declared.route_changes.RouteChange.{RouteChange}

-- a route, and the number of the peer that announced it
pub record PeerRoute : Type 0 where
  pub peer : ℕ
  pub route : Route

-- an instance route has no path, a path route has one that has a spelling, and there are no other routes
abbrev pub PathFits : Nlri → Option Sfp → Type 0
PathFits (nlris.Sfir rd kind) path = path ≡ None
PathFits (nlris.Sfpr rd spi) path = (sfp : Sfp) × (path ≡ Some sfp) × SfpFits sfp
PathFits (nlris.Other kind body) path = ⊥

abbrev pub RouteFits : Route → Type 0
RouteFits route = PathFits route.nlri route.path

-- a change announces only such routes
abbrev pub IsRouteChange : RouteChange → Type 0
IsRouteChange change = AllByRecursion RouteFits change.announced

-- the route is the peer's, and names this
pub record IsOf (peer : ℕ) (nlri : Nlri) (e : PeerRoute) : Type 0 where
  pub of_peer : e.peer ≡ peer
  pub named : e.route.nlri ≡ nlri
