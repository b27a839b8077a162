-- Lists of routes of peers, and what single edits make of them.
use Rattle.std.specs.Prelude.{◌≡◌, ℕ, ◌⊎◌, ◌↔◌, ◌<◌, List, map, length, Contains, HoldsAt}
use Rattle.std.specs.List.{AllByRecursion}
use Rattle.bgp_update.specs.declared.routes.Nlri.{Nlri}
use Rattle.sfc_routes.specs.declared.routes.Route.{Route}
use Rattle.sfc_routes.specs.PeerRoutes.{PeerRoute, RouteFits, IsOf}
use Rattle.sfc_routes.specs.LastWords.{LastSays}
use Rattle.sfc_routes.specs.RouteOrder.{InOrder}

-- what a list keeps
pub record IsRouteList (list : List PeerRoute) : Type 0 where
  pub in_order : InOrder list
  pub routes_fit : AllByRecursion (λ (e : PeerRoute). RouteFits e.route) list

-- the route at a place is the peer's, and names this
abbrev pub IsThere : List PeerRoute → ℕ → ℕ → Nlri → Type 0
IsThere list place peer nlri = (place < length list) × HoldsAt (IsOf peer nlri) list place

-- all but these are left
abbrev pub Loses : (PeerRoute → Type 0) → List PeerRoute → List PeerRoute → Type 0
Loses Goes old new = (e : PeerRoute) → Contains new e ↔ (Contains old e × ¬ Goes e)

-- the peer's routes that name one of these are gone
abbrev pub LosesNamed : ℕ → List Nlri → List PeerRoute → List PeerRoute → Type 0
LosesNamed peer nlris old new = Loses (λ (e : PeerRoute). (e.peer ≡ peer) × Contains nlris e.route.nlri) old new

-- what has no word on the route's peer and NLRI
abbrev pub IsOther : PeerRoute → PeerRoute → Type 0
IsOther e one = ¬ IsOf e.peer e.route.nlri one

-- the route joins, in place of the one with its peer and NLRI
abbrev pub Puts : PeerRoute → List PeerRoute → List PeerRoute → Type 0
Puts one old new = (e : PeerRoute) → Contains new e ↔ ((one ≡ e) ⊎ (Contains old e × IsOther e one))

-- routes join, one after the other
abbrev pub PutsAll : List PeerRoute → List PeerRoute → List PeerRoute → Type 0
PutsAll ones old new = (e : PeerRoute) → Contains new e ↔ (LastSays (λ (one : PeerRoute). one ≡ e) (IsOther e) ones ⊎ (Contains old e × AllByRecursion (IsOther e) ones))

-- routes as those of a peer
abbrev pub peer_routes : ℕ → List Route → List PeerRoute
peer_routes peer routes = map (λ (r : Route). record { peer = peer; route = r }) routes
