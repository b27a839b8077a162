-- Service function path routes (SFPRs) that a roster accepts (after RFC 9015, sections 3.2 and 7).
use Rattle.std.specs.Prelude.{◌≡◌, ℕ, ◌+◌, nat_lt, if◌then◌else◌, Some, List, [], ◌∷◌, Contains}
use Rattle.bgp_update.specs.declared.routes.Nlri.TheVariants as nlris
use Rattle.sfp_attribute.specs.declared.sfps.Sfp.{Sfp}
use Rattle.sfc_routes.specs.Entries.{Entries, Accepts}
use Rattle.sfc_routes.specs.PeerRoutes.{PeerRoute}
use Rattle.route_selection.specs.Lowest.{AreLowest}

-- what counts of a path route
pub record PathRoute : Type 0 where
  pub spi : ℕ
  pub rd : List ℕ
  pub peer : ℕ
  pub sfp : Sfp

-- the route is an accepted SFPR, one with accepted targets, and this is what counts of it
pub record Shows (roster : Entries) (e : PeerRoute) (p : PathRoute) : Type 0 where
  pub named : e.route.nlri ≡ nlris.Sfpr p.rd p.spi
  pub of_peer : p.peer ≡ e.peer
  pub path : e.route.path ≡ Some p.sfp
  pub accepted : Accepts roster e.route.targets

abbrev pub ShowsNone : Entries → PeerRoute → Type 0
ShowsNone roster e = (p : PathRoute) → ¬ Shows roster e p

abbrev pub Shown : Entries → List PeerRoute → PathRoute → Type 0
Shown roster routes p = (e : PeerRoute) × Contains routes e × Shows roster e p

-- path routes are named by their SPI, then their RD
abbrev pub path_name : PathRoute → List ℕ
path_name p = p.spi ∷ p.rd

abbrev pub path_peer : PathRoute → ℕ
path_peer p = p.peer

-- the accepted SFPRs, in order of SPI, then RD; of those of one SPI and RD the one of the lowest peer stands
abbrev pub Accepted : Entries → List PeerRoute → List PathRoute → Type 0
Accepted roster routes ps = AreLowest path_name path_peer (Shown roster routes) ps

-- of several with one SPI, which stand in the order of their RDs, the first one: for each SPI that is not below the least
abbrev pub firsts : ℕ → List PathRoute → List PathRoute
firsts least [] = []
firsts least (p ∷ ps) = if nat_lt p.spi least then firsts least ps else p ∷ firsts (p.spi + 1) ps
