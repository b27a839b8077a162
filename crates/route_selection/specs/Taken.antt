-- Which path route an SPI takes, of several accepted ones (after RFC 9015, section 7).
use Rattle.std.specs.Prelude.{◌≡◌, ◌≤◌, List}
use Rattle.sfc_routes.specs.Entries.{Entries}
use Rattle.sfc_routes.specs.PeerRoutes.{PeerRoute}
use Rattle.sfc_routes.specs.RouteOrder.{IsBefore}
use Rattle.path_selection.specs.Paths.{ServicePath}
use Rattle.route_selection.specs.declared.candidates.Candidate.{Candidate}
use Rattle.route_selection.specs.Accepted.{PathRoute, Shown}
use Rattle.route_selection.specs.Selections.{path_at}
use Rattle.route_selection.specs.Usable.{Usable}

-- one of the accepted ones: of its SPI no accepted one has a lower RD, and of its SPI and RD none is of a lower peer
pub record IsTaken (roster : Entries) (routes : List PeerRoute) (p : PathRoute) : Type 0 where
  pub shown : Shown roster routes p
  pub lowest : (q : PathRoute) → Shown roster routes q → q.spi ≡ p.spi → ¬ IsBefore q.rd p.rd
  pub lowest_peer : (q : PathRoute) → Shown roster routes q → q.spi ≡ p.spi → q.rd ≡ p.rd → p.peer ≤ q.peer

-- the path of the path route that its SPI takes, over the usable candidates
pub record IsPathOf (roster : Entries) (routes : List PeerRoute) (path : ServicePath) : Type 0 where
  pub usable : List Candidate
  pub are_usable : Usable roster routes usable
  pub taken : PathRoute
  pub is_taken : IsTaken roster routes taken
  pub path_is : path ≡ path_at usable taken
