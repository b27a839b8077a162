-- Tables after changes: there is one, and before the first change it has no path.
use Rattle.std.proofs.Common.{◌≡◌, ℕ, ◌+◌, ◌≤◌, List, [], ◌∷◌, map, Contains, Some, refl, sym, ap, subst, ◌∙◌, inl, inr}
use Rattle.std.specs.Prelude.{◌↔◌}
use Rattle.std.specs.List.{AllByRecursion}
use Rattle.std.proofs.lemmas.Bool.{cases_lt}
use Rattle.bgp_update.specs.declared.routes.Nlri.{Nlri}
use Rattle.bgp_update.specs.declared.routes.Nlri.TheVariants as nlris
use Rattle.sfp_attribute.specs.declared.sfps.Sfp.{Sfp}
use Rattle.sfp_attribute.specs.Sfps.{SfpFits}
use Rattle.sfc_routes.specs.declared.routes.Route.{Route}
use Rattle.sfc_routes.proofs.MemberLemmas.{all_from_members, all_member, at_front, no_member}
use Rattle.sfc_routes.specs.declared.route_changes.RouteChange.{RouteChange}
use Rattle.sfc_routes.specs.Entries.{Entries, IsRoster}
use Rattle.sfc_routes.specs.PeerRoutes.{PathFits, PeerRoute, RouteFits}
use Rattle.sfc_routes.specs.LastWords.{Routes, Stands}
use Rattle.sfc_routes.specs.RouteLists.{IsRouteList}
use Rattle.path_selection.specs.Paths.{ArePathRows, IsTable, RisesFrom, ServicePath}
use Rattle.route_selection.specs.Accepted.{PathRoute, Accepted, firsts}
use Rattle.route_selection.specs.Selections.{IsSelection, path_at}
use Rattle.route_selection.proofs.PathLemmas.{firsts_skip, firsts_take, path_falls}
use Rattle.control_histories.specs.Versions.{TableAfter}

abbrev pub OneSelection : Type 0
OneSelection = (roster : Entries) (routes others : List PeerRoute) (changes more : List RouteChange) (table other : List ServicePath)
    → IsRoster roster → IsRouteList routes → IsRouteList others → Stands routes changes → Stands others more
    → ((e : PeerRoute) → Routes changes e ↔ Routes more e)
    → IsSelection roster routes table → IsSelection roster others other → table ≡ other

pub one_table : OneSelection → (roster : Entries) (changes : List RouteChange) (table other : List ServicePath) → IsRoster roster → TableAfter roster changes table → TableAfter roster changes other → table ≡ other
one_table one roster changes table other is_roster x y =
    one roster x.routes y.routes changes changes table other is_roster x.are_routes y.are_routes x.stand y.stand (λ e. ((λ r. r), (λ r. r))) x.selected y.selected

none_accepted : (roster : Entries) (routes : List PeerRoute) (accepted : List PathRoute) → ((e : PeerRoute) → Contains routes e → ⊥) → Accepted roster routes accepted → accepted ≡ []
none_accepted roster routes [] none are = refl
none_accepted roster routes (p ∷ ps) none are =
    let shown = are.each p (at_front p ps) in
    absurd (none shown.0 shown.1)

pub no_path : (roster : Entries) (table : List ServicePath) → TableAfter roster [] table → table ≡ []
no_path roster table x =
    let none : (e : PeerRoute) → Contains x.routes e → ⊥ = λ e there. (x.stand e).0 there in
    x.selected.paths ∙ ap (λ (l : List PathRoute). map (path_at x.selected.usable) (firsts 0 l)) (none_accepted roster x.routes x.selected.accepted none x.selected.are_accepted)

-- ---- the selection of routes is a table

path_fits : (route : Route) (rd : List ℕ) (spi : ℕ) (sfp : Sfp) → route.nlri ≡ nlris.Sfpr rd spi → route.path ≡ Some sfp → RouteFits route → SfpFits sfp
path_fits route rd spi sfp named path fits =
    let has : (other : Sfp) × (route.path ≡ Some other) × SfpFits other = subst (λ (n : Nlri). PathFits n route.path) named fits in
    let both : Some has.0 ≡ Some sfp = sym has.1 ∙ path in
    let same : has.0 ≡ sfp = cc in
    subst SfpFits same has.2

all_fit : (roster : Entries) (routes : List PeerRoute) (accepted : List PathRoute) → IsRouteList routes → Accepted roster routes accepted → AllByRecursion (λ (p : PathRoute). SfpFits p.sfp) accepted
all_fit roster routes accepted list are =
    all_from_members (λ (p : PathRoute). SfpFits p.sfp) accepted (λ p there.
    let shown = are.each p there in
    path_fits shown.0.route p.rd p.spi p.sfp shown.2.named shown.2.path (all_member (λ (e : PeerRoute). RouteFits e.route) routes shown.0 list.routes_fit shown.1))

-- each path route gives a path with its identifier
firsts_rise : (path : PathRoute → ServicePath) → ((p : PathRoute) → (path p).spi ≡ p.spi) → ((p : PathRoute) → SfpFits p.sfp → ArePathRows (path p).rows) → (least : ℕ) (ps : List PathRoute)
    → AllByRecursion (λ (p : PathRoute). SfpFits p.sfp) ps → RisesFrom least (map path (firsts least ps))
firsts_rise path spi rows least [] fit = tt
firsts_rise path spi rows least (p ∷ ps) fit =
    elim (cases_lt p.spi least) [
      | inl below ↦ subst (λ (l : List PathRoute). RisesFrom least (map path l)) (sym (firsts_skip least p ps below)) (firsts_rise path spi rows least ps fit.1)
      | inr above ↦
          let rest : RisesFrom (p.spi + 1) (map path (firsts (p.spi + 1) ps)) = firsts_rise path spi rows (p.spi + 1) ps fit.1 in
          let all : RisesFrom least (path p ∷ map path (firsts (p.spi + 1) ps)) =
          subst (λ (n : ℕ). (least ≤ n) × ArePathRows (path p).rows × RisesFrom (n + 1) (map path (firsts (p.spi + 1) ps))) (sym (spi p)) (above, rows p fit.0, rest) in
          subst (λ (l : List PathRoute). RisesFrom least (map path l)) (sym (firsts_take least p ps above)) all
    ]

pub is_table : (roster : Entries) (changes : List RouteChange) (table : List ServicePath) → TableAfter roster changes table → IsTable table
is_table roster changes table x =
    let fit = all_fit roster x.routes x.selected.accepted x.are_routes x.selected.are_accepted in
    subst IsTable (sym x.selected.paths) (firsts_rise (path_at x.selected.usable) (λ p. refl) (λ p fits. path_falls x.selected.usable p.spi p.sfp fits) 0 x.selected.accepted fit)

-- ---- before the first change

pub empty_table : (roster : Entries) → TableAfter roster [] []
empty_table roster = record {
  routes = [];
  are_routes = record { in_order = tt; routes_fit = tt };
  stand = λ e. (no_member e, (λ none. absurd none));
  selected = record {
    usable = [];
    are_usable = record { in_order = tt; each = λ c there. absurd (no_member c there); all = λ c seen. absurd (no_member seen.0 seen.1) };
    accepted = [];
    are_accepted = record { in_order = tt; each = λ p there. absurd (no_member p there); all = λ p seen. absurd (no_member seen.0 seen.1) };
    paths = refl;
  };
}
