-- Each route offers a candidate or none, and is an accepted path route or none.
use Rattle.std.proofs.Common.{◌≡◌, ℕ, zero, suc, List, [], ◌∷◌, length, refl, sym, ◌∙◌, ap, subst, inl, inr, ◌⊎◌, Contains, bytes_eq, true≢false, arith, Option, Some, None}
use Rattle.std.proofs.lemmas.Bool.{cases_Bool, cases_eq}
use Rattle.std.proofs.lemmas.Slice.Eq.{bytes_eq-Decides}
use Rattle.wire_base.specs.declared.next_hops.NextHop.{NextHop}
use Rattle.wire_base.specs.declared.next_hops.NextHop.TheVariants.{Four, Sixteen}
use Rattle.bgp_update.specs.declared.routes.Nlri.{Nlri}
use Rattle.bgp_update.specs.declared.routes.Nlri.TheVariants as nlris
use Rattle.sfp_attribute.specs.declared.sfps.Sfp.{Sfp}
use Rattle.sfc_routes.specs.declared.entries.ForwarderEntry.{ForwarderEntry}
use Rattle.sfc_routes.specs.declared.entries.InstanceEntry.{InstanceEntry}
use Rattle.sfc_routes.specs.Entries.{Entries, IsAt, Serves, Accepts}
use Rattle.sfc_routes.specs.PeerRoutes.{PeerRoute}
use Rattle.sfc_routes.proofs.MemberLemmas.{at_front, behind, front_or_behind, no_member}
use Rattle.route_selection.specs.declared.candidates.Candidate.{Candidate}
use Rattle.route_selection.specs.Usable.{Offers, OffersNone}
use Rattle.route_selection.specs.Accepted.{PathRoute, Shows, ShowsNone}
use Rattle.route_selection.proofs.UsableLemmas.{serves_at}

-- ---- equal or not, there or not

abbrev IsOrNot : Type 0 → Type 0
IsOrNot P = P ⊎ (P → ⊥)

same_bytes : (a b : List ℕ) → IsOrNot (a ≡ b)
same_bytes a b = elim (cases_Bool (bytes_eq a b)) [
  | inl same ↦ inl ((bytes_eq-Decides a b).0 same)
  | inr other ↦ inr (λ e. true≢false (sym ((bytes_eq-Decides a b).1 e) ∙ other))
]

same_address : (a b : NextHop) → IsOrNot (a ≡ b)
same_address (Four x) (Four y) = elim (same_bytes x y) [ inl is ↦ inl (ap Four is) | inr other ↦ inr (λ e. let is : x ≡ y = cc in other is) ]
same_address (Four x) (Sixteen y) = inr (λ e. cc)
same_address (Sixteen x) (Four y) = inr (λ e. cc)
same_address (Sixteen x) (Sixteen y) = elim (same_bytes x y) [ inl is ↦ inl (ap Sixteen is) | inr other ↦ inr (λ e. let is : x ≡ y = cc in other is) ]

serves : (rd : List ℕ) (kind : ℕ) (i : InstanceEntry) → IsOrNot (Serves rd kind i)
serves rd kind i = elim (same_bytes i.rd rd) [
  | inr other ↦ inr (λ s. other s.0)
  | inl is ↦ elim (cases_eq i.kind kind) [ inl same ↦ inl (is, same) | inr other ↦ inr (λ s. other s.1) ]
]

not_there : {X : Type 0} (P : X → Type 0) (x : X) (xs : List X) → (P x → ⊥) → ((i : ℕ) → IsAt P xs i → ⊥) → (i : ℕ) → IsAt P (x ∷ xs) i → ⊥
not_there P x xs first later zero h = first (h.1 x)
not_there P x xs first later (suc i) h = later i (omega (arith, h.0), λ d. h.1 d)

some_at : {X : Type 0} (P : X → Type 0) → ((x : X) → IsOrNot (P x)) → (xs : List X) → ((i : ℕ) × IsAt P xs i) ⊎ ((i : ℕ) → IsAt P xs i → ⊥)
some_at P decide [] = inr (λ i h. absurd (omega (arith, h.0)))
some_at P decide (x ∷ xs) = elim (decide x) [
  | inl is ↦ inl (0, (omega arith, λ d. is))
  | inr first ↦ elim (some_at P decide xs) [
    | inl later ↦ inl (suc later.0, (omega (arith, later.1.0), λ d. later.1.1 d))
    | inr none ↦ inr (not_there P x xs first none)
  ]
]

contains : (xs : List (List ℕ)) (t : List ℕ) → IsOrNot (Contains xs t)
contains [] t = inr (λ m. no_member t m)
contains (x ∷ xs) t = elim (same_bytes x t) [
  | inl is ↦ inl (subst (λ (y : List ℕ). Contains (x ∷ xs) y) is (at_front x xs))
  | inr other ↦ elim (contains xs t) [
    | inl more ↦ inl (behind x xs t more)
    | inr none ↦ inr (λ m. elim (front_or_behind x xs t m) [ inl is ↦ other is | inr more ↦ none more ])
  ]
]

accepts : (roster : Entries) (targets : List (List ℕ)) → IsOrNot (Accepts roster targets)
accepts roster targets = elim (cases_eq (length roster.targets) 0) [
  | inl any ↦ inl (inl any)
  | inr some ↦ elim (some_at (Contains roster.targets) (contains roster.targets) targets) [
    | inl at ↦ inl (inr at)
    | inr none ↦ inr (λ a. elim a [ inl any ↦ some any | inr at ↦ none at.0 at.1 ])
  ]
]

-- ---- instance routes

offer_at : (roster : Entries) (e : PeerRoute) (rd : List ℕ) (kind : ℕ) → e.route.nlri ≡ nlris.Sfir rd kind → Accepts roster e.route.targets → OffersNone roster e ⊎ ((c : Candidate) × Offers roster e c)
offer_at roster e rd kind is accepted = elim (some_at (λ (f : ForwarderEntry). f.address ≡ e.route.next_hop) (λ f. same_address f.address e.route.next_hop) roster.forwarders) [
  | inr none ↦ inl (λ c o. none c.forwarder.0 o.at_forwarder)
  | inl forwarder ↦ elim (some_at (Serves rd kind) (serves rd kind) roster.instances) [
    | inr none ↦ inl (λ c o. none c.instance.0 (serves_at roster e c rd kind is o))
    | inl instance ↦
        inr (
          record { kind = kind; rd = rd; peer = e.peer; forwarder = record { 0 = forwarder.0 }; instance = record { 0 = instance.0 } },
          record { named = is; of_peer = refl; accepted = accepted; at_forwarder = forwarder.1; at_instance = instance.1 },
        )
  ]
]

offer_of : (roster : Entries) (e : PeerRoute) (n : Nlri) → e.route.nlri ≡ n → OffersNone roster e ⊎ ((c : Candidate) × Offers roster e c)
offer_of roster e (nlris.Sfir rd kind) is = elim (accepts roster e.route.targets) [
  | inr refused ↦ inl (λ c o. refused o.accepted)
  | inl accepted ↦ offer_at roster e rd kind is accepted
]
offer_of roster e (nlris.Sfpr rd spi) is = inl (λ c o. let clash : nlris.Sfpr rd spi ≡ nlris.Sfir c.rd c.kind = sym is ∙ o.named in cc)
offer_of roster e (nlris.Other kind body) is = inl (λ c o. let clash : nlris.Other kind body ≡ nlris.Sfir c.rd c.kind = sym is ∙ o.named in cc)

pub offer : (roster : Entries) (e : PeerRoute) → OffersNone roster e ⊎ ((c : Candidate) × Offers roster e c)
offer roster e = offer_of roster e e.route.nlri refl

-- ---- path routes

show_with : (roster : Entries) (e : PeerRoute) (rd : List ℕ) (spi : ℕ) (path : Option Sfp) → e.route.nlri ≡ nlris.Sfpr rd spi → e.route.path ≡ path → Accepts roster e.route.targets → ShowsNone roster e ⊎ ((p : PathRoute) × Shows roster e p)
show_with roster e rd spi None is none accepted = inl (λ p s. let clash : None ≡ Some p.sfp = sym none ∙ s.path in cc)
show_with roster e rd spi (Some sfp) is some accepted =
    inr (
      record { spi = spi; rd = rd; peer = e.peer; sfp = sfp },
      record { named = is; of_peer = refl; path = some; accepted = accepted },
    )

show_of : (roster : Entries) (e : PeerRoute) (n : Nlri) → e.route.nlri ≡ n → ShowsNone roster e ⊎ ((p : PathRoute) × Shows roster e p)
show_of roster e (nlris.Sfpr rd spi) is = elim (accepts roster e.route.targets) [
  | inr refused ↦ inl (λ p s. refused s.accepted)
  | inl accepted ↦ show_with roster e rd spi e.route.path is refl accepted
]
show_of roster e (nlris.Sfir rd kind) is = inl (λ p s. let clash : nlris.Sfir rd kind ≡ nlris.Sfpr p.rd p.spi = sym is ∙ s.named in cc)
show_of roster e (nlris.Other kind body) is = inl (λ p s. let clash : nlris.Other kind body ≡ nlris.Sfpr p.rd p.spi = sym is ∙ s.named in cc)

pub show : (roster : Entries) (e : PeerRoute) → ShowsNone roster e ⊎ ((p : PathRoute) × Shows roster e p)
show roster e = show_of roster e e.route.nlri refl
