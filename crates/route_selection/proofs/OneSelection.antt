-- Routes have one selection.
use Rattle.std.proofs.Common.{◌≡◌, ℕ, ◌≢◌, List, [], ◌∷◌, drop, get_or, sym, ◌∙◌, ap, ap₂, subst, inl, inr, Contains, ◌↔◌, arith, map}
use Rattle.std.specs.List.{AllPairs}
use Rattle.std.proofs.lemmas.Bool.{cases_order}
use Rattle.bgp_update.specs.declared.routes.Nlri.{Nlri}
use Rattle.bgp_update.specs.declared.routes.Nlri.TheVariants as nlris
use Rattle.sfc_routes.specs.declared.entries.ForwarderEntry.{ForwarderEntry}
use Rattle.sfc_routes.specs.declared.entries.InstanceEntry.{InstanceEntry}
use Rattle.sfc_routes.specs.declared.route_changes.RouteChange.{RouteChange}
use Rattle.sfc_routes.specs.Entries.{Entries, IsAt, Serves, IsRoster}
use Rattle.sfc_routes.specs.LastWords.{Routes, Stands}
use Rattle.sfc_routes.specs.PeerRoutes.{PeerRoute}
use Rattle.sfc_routes.specs.RouteLists.{IsRouteList}
use Rattle.sfc_routes.specs.RouteOrder.{key, key_of, InOrder}
use Rattle.sfc_routes.proofs.HistoryLemmas.{one_of_a_name}
use Rattle.path_selection.specs.Paths.{ServicePath}
use Rattle.route_selection.specs.declared.candidates.Candidate.{Candidate}
use Rattle.route_selection.specs.Lowest.{Ascends}
use Rattle.route_selection.specs.Usable.{Offers, Offered, name_of, peer_of}
use Rattle.route_selection.specs.Accepted.{PathRoute, Shows, Shown, path_name, path_peer, firsts}
use Rattle.route_selection.specs.Selections.{IsSelection, path_at}
use Rattle.route_selection.proofs.AcceptedLemmas.{some_injective}
use Rattle.route_selection.proofs.LowestLemmas.{same_members, one_lowest}

-- entries of which each two differ are at one place
one_place : {X : Type 0} (P : X → Type 0) (R : X → X → Type 0) (xs : List X) (i j : ℕ) → ((x y : X) → P x → P y → R x y → ⊥) → AllPairs R xs → IsAt P xs i → IsAt P xs j → i ≡ j
one_place P R [] i j clash pairs a b = absurd (omega (arith, a.0))
one_place P R (x ∷ xs) i j clash pairs a b = elim (cases_order i j) [
  | inl same ↦ same
  | inr (inl less) ↦ absurd (clash (get_or (x ∷ xs) i x) (get_or (x ∷ xs) j x) (a.1 x) (b.1 x) (pairs i j x less b.0))
  | inr (inr more) ↦ absurd (clash (get_or (x ∷ xs) j x) (get_or (x ∷ xs) i x) (b.1 x) (a.1 x) (pairs j i x more a.0))
]

one_route : (routes : List PeerRoute) (e f : PeerRoute) → IsRouteList routes → Contains routes e → Contains routes f → e.peer ≡ f.peer → e.route.nlri ≡ f.route.nlri → e ≡ f
one_route routes e f l m n peer nlri = one_of_a_name routes e f l m n (record { of_peer = sym peer; named = sym nlri })

name_in : (n m : Nlri) → n ≡ m → drop 2 (key 0 n) ≡ drop 2 (key 0 m)
name_in n m e = ap (λ (x : Nlri). drop 2 (key 0 x)) e

name_is : (x y : Candidate) → nlris.Sfir x.rd x.kind ≡ nlris.Sfir y.rd y.kind → name_of x ≡ name_of y
name_is x y e = name_in (nlris.Sfir x.rd x.kind) (nlris.Sfir y.rd y.kind) e

one_offer : (roster : Entries) (e : PeerRoute) (x y : Candidate) → IsRoster roster → Offers roster e x → Offers roster e y → x ≡ y
one_offer roster e x y r o h =
    let nlri = sym o.named ∙ h.named in
    let kind : x.kind ≡ y.kind = ap (λ (l : List ℕ). get_or l 0 0) (name_is x y nlri) in
    let rd : x.rd ≡ y.rd = ap (λ (l : List ℕ). drop 1 l) (name_is x y nlri) in
    let peer : x.peer ≡ y.peer = o.of_peer ∙ sym h.of_peer in
    let f : x.forwarder.0 ≡ y.forwarder.0 = one_place (λ (f : ForwarderEntry). f.address ≡ e.route.next_hop) (λ (f g : ForwarderEntry). f.address ≢ g.address) roster.forwarders x.forwarder.0 y.forwarder.0 (λ f g p q n. n (p ∙ sym q)) r.addresses_differ o.at_forwarder h.at_forwarder in
    let there : IsAt (Serves x.rd x.kind) roster.instances y.instance.0 = subst (λ (l : List ℕ). IsAt (Serves (drop 1 l) (get_or l 0 0)) roster.instances y.instance.0) (sym (name_is x y nlri)) h.at_instance in
    let i : x.instance.0 ≡ y.instance.0 = one_place (Serves x.rd x.kind) (λ (s t : InstanceEntry). ¬ (Serves t.rd t.kind s)) roster.instances x.instance.0 y.instance.0 (λ s t p q n. n (p.0 ∙ sym q.0, p.1 ∙ sym q.1)) r.services_differ o.at_instance there in
    λ k. record { kind = kind k; rd = rd k; peer = peer k; forwarder = record { 0 = f k }; instance = record { 0 = i k } }

-- a name and a peer have one route, and so one candidate
one_offered : (roster : Entries) (routes : List PeerRoute) → IsRoster roster → IsRouteList routes → (x y : Candidate) → Offered roster routes x → Offered roster routes y → name_of x ≡ name_of y → peer_of x ≡ peer_of y → x ≡ y
one_offered roster routes r l x y s t name peer =
    let nlri : s.0.route.nlri ≡ t.0.route.nlri = s.2.named ∙ ap (λ (k : List ℕ). nlris.Sfir (drop 1 k) (get_or k 0 0)) name ∙ sym t.2.named in
    let same : t.0 ≡ s.0 = one_route routes t.0 s.0 l t.1 s.1 (sym t.2.of_peer ∙ sym peer ∙ s.2.of_peer) (sym nlri) in
    one_offer roster s.0 x y r s.2 (subst (λ (e : PeerRoute). Offers roster e y) same t.2)

path_name_is : (x y : PathRoute) → nlris.Sfpr x.rd x.spi ≡ nlris.Sfpr y.rd y.spi → path_name x ≡ path_name y
path_name_is x y e = name_in (nlris.Sfpr x.rd x.spi) (nlris.Sfpr y.rd y.spi) e

one_show : (roster : Entries) (e : PeerRoute) (x y : PathRoute) → Shows roster e x → Shows roster e y → x ≡ y
one_show roster e x y o h =
    let name = path_name_is x y (sym o.named ∙ h.named) in
    let spi : x.spi ≡ y.spi = ap (λ (l : List ℕ). get_or l 0 0) name in
    let rd : x.rd ≡ y.rd = ap (λ (l : List ℕ). drop 1 l) name in
    let peer : x.peer ≡ y.peer = o.of_peer ∙ sym h.of_peer in
    let sfp : x.sfp ≡ y.sfp = some_injective x.sfp y.sfp (sym o.path ∙ h.path) in
    λ k. record { spi = spi k; rd = rd k; peer = peer k; sfp = sfp k }

one_shown : (roster : Entries) (routes : List PeerRoute) → IsRouteList routes → (x y : PathRoute) → Shown roster routes x → Shown roster routes y → path_name x ≡ path_name y → path_peer x ≡ path_peer y → x ≡ y
one_shown roster routes l x y s t name peer =
    let nlri : s.0.route.nlri ≡ t.0.route.nlri = s.2.named ∙ ap (λ (k : List ℕ). nlris.Sfpr (drop 1 k) (get_or k 0 0)) name ∙ sym t.2.named in
    let same : t.0 ≡ s.0 = one_route routes t.0 s.0 l t.1 s.1 (sym t.2.of_peer ∙ sym peer ∙ s.2.of_peer) (sym nlri) in
    one_show roster s.0 x y s.2 (subst (λ (e : PeerRoute). Shows roster e y) same t.2)

pub one_selection : (roster : Entries) (routes : List PeerRoute) (table other : List ServicePath) → IsRoster roster → IsRouteList routes → IsSelection roster routes table → IsSelection roster routes other → table ≡ other
one_selection roster routes table other r l s t =
    let usable : s.usable ≡ t.usable = one_lowest name_of peer_of (Offered roster routes) s.usable t.usable (one_offered roster routes r l) s.are_usable t.are_usable in
    let accepted : s.accepted ≡ t.accepted = one_lowest path_name path_peer (Shown roster routes) s.accepted t.accepted (one_shown roster routes l) s.are_accepted t.are_accepted in
    s.paths ∙ ap₂ (λ (us : List Candidate) (ps : List PathRoute). map (path_at us) (firsts 0 ps)) usable accepted ∙ sym t.paths

ascends : (es : List PeerRoute) → InOrder es → Ascends key_of es
ascends [] r = tt
ascends (e ∷ es) r = (r.0, ascends es r.1)

peer_in : PeerRoute → ℕ
peer_in e = e.peer

pub same_selection : (roster : Entries) (routes others : List PeerRoute) (table other : List ServicePath) → IsRoster roster → IsRouteList routes → IsRouteList others → ((e : PeerRoute) → Contains routes e ↔ Contains others e) → IsSelection roster routes table → IsSelection roster others other → table ≡ other
same_selection roster routes others table other r l o same s t =
    let is : others ≡ routes = same_members key_of peer_in others routes (ascends others o.in_order) (ascends routes l.in_order) (λ e m. (same e).1 m) (λ e m. (same e).0 m) in
    one_selection roster routes table other r l s (subst (λ (list : List PeerRoute). IsSelection roster list other) is t)

pub last_selection : (roster : Entries) (routes others : List PeerRoute) (changes more : List RouteChange) (table other : List ServicePath) → IsRoster roster → IsRouteList routes → IsRouteList others → Stands routes changes → Stands others more → ((e : PeerRoute) → Routes changes e ↔ Routes more e) → IsSelection roster routes table → IsSelection roster others other → table ≡ other
last_selection roster routes others changes more table other r l o a b same s t =
    same_selection roster routes others table other r l o
    (λ e. (λ m. (b e).1 ((same e).0 ((a e).0 m)), λ m. (a e).1 ((same e).1 ((b e).0 m))))
    s t
