-- What counts of a path route: it is one at most, and it has a spelling.
use Rattle.std.proofs.Common.{◌≡◌, ◌≤◌, List, drop, sym, ◌∙◌, ap, subst, arith, Option, Some}
use Rattle.std.specs.Option.{option_map_or}
use Rattle.std.specs.List.{AllByRecursion}
use Rattle.bgp_update.specs.declared.routes.Nlri.{Nlri}
use Rattle.bgp_update.specs.declared.routes.Nlri.TheVariants as nlris
use Rattle.sfp_attribute.specs.declared.sfps.Sfp.{Sfp}
use Rattle.sfp_attribute.specs.Sfps.{SfpFits}
use Rattle.sfc_routes.specs.Entries.{Entries}
use Rattle.sfc_routes.specs.PeerRoutes.{PeerRoute, PathFits, RouteFits}
use Rattle.sfc_routes.specs.RouteLists.{IsRouteList}
use Rattle.sfc_routes.specs.RouteOrder.{key}
use Rattle.sfc_routes.proofs.MemberLemmas.{all_member, all_from_members}
use Rattle.route_selection.specs.Accepted.{PathRoute, Shows, Shown, Accepted, path_name, path_peer}

-- what counts of one route has one name and one peer
pub same_show : (roster : Entries) (e : PeerRoute) (c x : PathRoute) → Shows roster e c → Shows roster e x → (path_name c ≡ path_name x) × (path_peer c ≤ path_peer x)
same_show roster e c x o h = (ap (λ (n : Nlri). drop 2 (key 0 n)) (sym o.named ∙ h.named), omega (arith, o.of_peer, h.of_peer))

pub some_injective : (s t : Sfp) → Some s ≡ Some t → s ≡ t
some_injective s t e = ap (λ (o : Option Sfp). option_map_or (λ (x : Sfp). x) o s) e

-- the paths of accepted routes have a spelling
shown_fits : (roster : Entries) (routes : List PeerRoute) (p : PathRoute) → AllByRecursion (λ (e : PeerRoute). RouteFits e.route) routes → Shown roster routes p → SfpFits p.sfp
shown_fits roster routes p fits s =
    let route = s.0.route in
    let fit : RouteFits route = all_member (λ (e : PeerRoute). RouteFits e.route) routes s.0 fits s.1 in
    let fit_path : PathFits (nlris.Sfpr p.rd p.spi) (Some p.sfp) = subst (λ (o : Option Sfp). PathFits (nlris.Sfpr p.rd p.spi) o) s.2.path (subst (λ (n : Nlri). PathFits n route.path) s.2.named fit) in
    let same : fit_path.0 ≡ p.sfp = some_injective fit_path.0 p.sfp (sym fit_path.1) in
    subst SfpFits same fit_path.2

pub accepted_fit : (roster : Entries) (routes : List PeerRoute) (ps : List PathRoute) → IsRouteList routes → Accepted roster routes ps → AllByRecursion (λ (p : PathRoute). SfpFits p.sfp) ps
accepted_fit roster routes ps l a = all_from_members (λ (p : PathRoute). SfpFits p.sfp) ps (λ p m. shown_fits roster routes p l.routes_fit (a.each p m))
