-- Which routes stand after changes: those that the last word on a peer and an NLRI announces (RFC 4271, section 9: a route
-- stands until it is replaced or withdrawn).
use Rattle.std.specs.Prelude.{◌≡◌, ◌≢◌, ◌⊎◌, ◌↔◌, Contains, false, List, [], ◌∷◌}
use Rattle.std.specs.List.{AllByRecursion}
use Rattle.bgp_update.specs.declared.routes.Nlri.{Nlri}
use Rattle.sfc_routes.specs.declared.routes.Route.{Route}
use Rattle.sfc_routes.specs.declared.route_changes.RouteChange.{RouteChange}
use Rattle.sfc_routes.specs.PeerRoutes.{PeerRoute}

-- one of the list says it, and all behind it are silent
abbrev pub LastSays : {X : Type 0} → (X → Type 0) → (X → Type 0) → List X → Type 0
LastSays Says IsSilent [] = ⊥
LastSays Says IsSilent (x ∷ xs) = (Says x × AllByRecursion IsSilent xs) ⊎ LastSays Says IsSilent xs

-- the announcements have no word on the NLRI
abbrev pub AreSilent : List Route → Nlri → Type 0
AreSilent routes nlri = AllByRecursion (λ (r : Route). r.nlri ≢ nlri) routes

-- the last of the announcements of this NLRI is this route
abbrev pub LastAnnounces : List Route → Route → Type 0
LastAnnounces routes route = LastSays (λ (r : Route). r ≡ route) (λ (r : Route). r.nlri ≢ route.nlri) routes

-- ---- inside one change an announcement stands above a withdrawal, a withdrawal above `all`

-- the change announces the route
pub record Announces (change : RouteChange) (e : PeerRoute) : Type 0 where
  pub of_peer : change.peer ≡ e.peer
  pub last : LastAnnounces change.announced e.route

-- the change has no word on the peer's NLRI: it neither announces nor withdraws it
pub record SaysNothing (change : RouteChange) (nlri : Nlri) : Type 0 where
  pub not_announced : AreSilent change.announced nlri
  pub not_withdrawn : ¬ Contains change.withdrawn nlri
  pub not_all : change.all ≡ false

abbrev pub IsSilent : RouteChange → PeerRoute → Type 0
IsSilent change e = change.peer ≡ e.peer → SaysNothing change e.route.nlri

-- ---- after changes, one after the other

-- the last word on the route's peer and NLRI announces it
abbrev pub Routes : List RouteChange → PeerRoute → Type 0
Routes changes e = LastSays (λ (c : RouteChange). Announces c e) (λ (c : RouteChange). IsSilent c e) changes

-- the list has exactly the routes that stand after the changes
abbrev pub Stands : List PeerRoute → List RouteChange → Type 0
Stands list changes = (e : PeerRoute) → Contains list e ↔ Routes changes e

-- one change: the new list has what it announces, and of the old one what it has no word on
abbrev pub Follows : List PeerRoute → RouteChange → List PeerRoute → Type 0
Follows old change new = (e : PeerRoute) → Contains new e ↔ (Announces change e ⊎ (Contains old e × IsSilent change e))
