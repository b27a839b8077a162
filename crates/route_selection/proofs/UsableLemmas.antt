-- What a route offers: one candidate at most, and none where no forwarder or no instance is there.
use Rattle.std.proofs.Common.{◌≡◌, ℕ, ◌≤◌, List, [], ◌∷◌, drop, get_or, sym, ◌∙◌, ap, subst, ◌≢◌, arith}
use Rattle.std.specs.List.{All}
use Rattle.bgp_update.specs.declared.routes.Nlri.{Nlri}
use Rattle.bgp_update.specs.declared.routes.Nlri.TheVariants as nlris
use Rattle.sfc_routes.specs.declared.entries.ForwarderEntry.{ForwarderEntry}
use Rattle.sfc_routes.specs.Entries.{Entries, IsAt, Serves}
use Rattle.sfc_routes.specs.PeerRoutes.{PeerRoute}
use Rattle.sfc_routes.specs.RouteOrder.{key}
use Rattle.route_selection.specs.declared.candidates.Candidate.{Candidate}
use Rattle.route_selection.specs.Usable.{Offers, name_of, peer_of}

-- candidates of one route have one name and one peer
pub same_offer : (roster : Entries) (e : PeerRoute) (c x : Candidate) → Offers roster e c → Offers roster e x → (name_of c ≡ name_of x) × (peer_of c ≤ peer_of x)
same_offer roster e c x o h = (ap (λ (n : Nlri). drop 2 (key 0 n)) (sym o.named ∙ h.named), omega (arith, o.of_peer, h.of_peer))

-- ---- what is not usable

no_at : {X : Type 0} (P : X → Type 0) (xs : List X) (i : ℕ) → All (λ (x : X). ¬ (P x)) xs → IsAt P xs i → ⊥
no_at P [] i none h = absurd (omega (arith, h.0))
no_at P (x ∷ xs) i none h = none i x h.0 (h.1 x)

pub no_forwarder : (roster : Entries) (e : PeerRoute) (c : Candidate) → All (λ f. f.address ≢ e.route.next_hop) roster.forwarders → Offers roster e c → ⊥
no_forwarder roster e c none o = no_at (λ (f : ForwarderEntry). f.address ≡ e.route.next_hop) roster.forwarders c.forwarder.0 none o.at_forwarder

-- the candidate of a route with this RD and type is an instance's of them
pub serves_at : (roster : Entries) (e : PeerRoute) (c : Candidate) (rd : List ℕ) (kind : ℕ) → e.route.nlri ≡ nlris.Sfir rd kind → Offers roster e c → IsAt (Serves rd kind) roster.instances c.instance.0
serves_at roster e c rd kind is o =
    let name : c.kind ∷ c.rd ≡ kind ∷ rd = ap (λ (n : Nlri). drop 2 (key 0 n)) (sym o.named ∙ is) in
    subst (λ (l : List ℕ). IsAt (Serves (drop 1 l) (get_or l 0 0)) roster.instances c.instance.0) name o.at_instance

pub no_instance : (roster : Entries) (e : PeerRoute) (c : Candidate) (rd : List ℕ) (kind : ℕ) → e.route.nlri ≡ nlris.Sfir rd kind → All (λ i. ¬ (Serves rd kind i)) roster.instances → Offers roster e c → ⊥
no_instance roster e c rd kind is none o = no_at (Serves rd kind) roster.instances c.instance.0 none (serves_at roster e c rd kind is o)
