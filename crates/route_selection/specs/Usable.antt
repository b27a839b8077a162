-- Service function instance routes (SFIRs) that a roster can use (after RFC 9015, sections 3.1 and 7).
use Rattle.std.specs.Prelude.{◌≡◌, ℕ, List, ◌∷◌, Contains}
use Rattle.bgp_update.specs.declared.routes.Nlri.TheVariants as nlris
use Rattle.sfc_routes.specs.Entries.{Entries, IsAt, Serves, Accepts}
use Rattle.sfc_routes.specs.PeerRoutes.{PeerRoute}
use Rattle.route_selection.specs.declared.candidates.Candidate.{Candidate}
use Rattle.route_selection.specs.Lowest.{AreLowest}

-- The route is a usable SFIR, and this is its candidate: the targets are accepted, the next hop is a forwarder's address, and
-- the RD and the type are those of an instance.
pub record Offers (roster : Entries) (e : PeerRoute) (c : Candidate) : Type 0 where
  pub named : e.route.nlri ≡ nlris.Sfir c.rd c.kind
  pub of_peer : c.peer ≡ e.peer
  pub accepted : Accepts roster e.route.targets
  pub at_forwarder : IsAt (λ f. f.address ≡ e.route.next_hop) roster.forwarders c.forwarder.0
  pub at_instance : IsAt (Serves c.rd c.kind) roster.instances c.instance.0

abbrev pub OffersNone : Entries → PeerRoute → Type 0
OffersNone roster e = (c : Candidate) → ¬ Offers roster e c

abbrev pub Offered : Entries → List PeerRoute → Candidate → Type 0
Offered roster routes c = (e : PeerRoute) × Contains routes e × Offers roster e c

-- candidates are named by their type, then their RD
abbrev pub name_of : Candidate → List ℕ
name_of c = c.kind ∷ c.rd

abbrev pub peer_of : Candidate → ℕ
peer_of c = c.peer

-- The candidates of the usable SFIRs, in order of type, then RD. First it is judged which are usable; of those of one type and
-- RD the one of the lowest peer stands.
abbrev pub Usable : Entries → List PeerRoute → List Candidate → Type 0
Usable roster routes cs = AreLowest name_of peer_of (Offered roster routes) cs
