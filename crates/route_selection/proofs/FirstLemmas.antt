-- The first path route of an SPI has its lowest RD, and each SPI has a first one.
use Rattle.std.proofs.Common.{◌≡◌, ℕ, ◌+◌, ◌<◌, ◌≤◌, List, [], ◌∷◌, get_or, refl, sym, ◌∙◌, ap, ap₂, subst, inl, inr, ◌⊎◌, Contains, arith, map, nat_cmp, Ordering, Equal}
use Rattle.std.specs.Cmp.Lexicographic.{slice_cmp}
use Rattle.std.specs.Ordering.{ordering_then}
use Rattle.std.proofs.lemmas.Bool.{cases_lt, cases_eq}
use Rattle.std.proofs.lemmas.Cmp.{nat_cmp_total, tied_itself}
use Rattle.sfc_routes.specs.Entries.{Entries}
use Rattle.sfc_routes.specs.PeerRoutes.{PeerRoute}
use Rattle.sfc_routes.specs.RouteOrder.{IsBefore}
use Rattle.sfc_routes.proofs.MemberLemmas.{at_front, behind, front_or_behind, no_member, all_member}
use Rattle.sfc_routes.proofs.OrderLemmas.{not_before_itself, not_both}
use Rattle.path_selection.specs.Paths.{ServicePath}
use Rattle.route_selection.specs.Accepted.{PathRoute, Shows, Shown, Accepted, path_name, path_peer, firsts}
use Rattle.route_selection.specs.Lowest.{Ascends}
use Rattle.route_selection.specs.Selections.{IsSelection, path_at}
use Rattle.route_selection.specs.Taken.{IsTaken, IsPathOf}
use Rattle.route_selection.specs.Usable.{Offers, name_of, peer_of}
use Rattle.route_selection.proofs.AcceptedLemmas.{same_show}
use Rattle.route_selection.proofs.DecisionLemmas.{offer, show}
use Rattle.route_selection.proofs.LowestLemmas.{same_name}
use Rattle.route_selection.proofs.PathLemmas.{firsts_skip, firsts_take}
use Rattle.route_selection.proofs.RangeLemmas.{head_le}
use Rattle.route_selection.proofs.SeenLemmas.{seen_all}
use Rattle.route_selection.proofs.UsableLemmas.{same_offer}

-- ---- the first of an SPI

firsts_cases : (least : ℕ) (x : PathRoute) (xs : List PathRoute) → ((x.spi < least) × (firsts least (x ∷ xs) ≡ firsts least xs)) ⊎ ((least ≤ x.spi) × (firsts least (x ∷ xs) ≡ x ∷ firsts (x.spi + 1) xs))
firsts_cases least x xs = elim (cases_lt x.spi least) [ inl lt ↦ inl (lt, firsts_skip least x xs lt) | inr le ↦ inr (le, firsts_take least x xs le) ]

-- one of the list, not below the least, and no other one of its SPI comes before it
record IsFirst (least : ℕ) (ps : List PathRoute) (p : PathRoute) : Type 0 where
  there : Contains ps p
  from : least ≤ p.spi
  first : (q : PathRoute) → Contains ps q → q.spi ≡ p.spi → IsBefore (path_name q) (path_name p) → ⊥

first_itself : (least : ℕ) (x : PathRoute) (xs : List PathRoute) → Ascends path_name (x ∷ xs) → least ≤ x.spi → IsFirst least (x ∷ xs) x
first_itself least x xs r from = record {
  there = at_front x xs;
  from = from;
  first = λ q n same before. elim (front_or_behind x xs q n) [
    | inl own ↦ not_before_itself (path_name x) (subst (λ (y : PathRoute). IsBefore (path_name y) (path_name x)) (sym own) before)
    | inr more ↦ not_both (path_name q) (path_name x) before (all_member (λ (y : PathRoute). IsBefore (path_name x) (path_name y)) xs q r.0 more)
  ];
}

-- one of a higher least is one here, if the front of the list is below it
first_behind : (least higher : ℕ) (x p : PathRoute) (xs : List PathRoute) → least ≤ higher → x.spi < higher → IsFirst higher xs p → IsFirst least (x ∷ xs) p
first_behind least higher x p xs le lt f = record {
  there = behind x xs p f.there;
  from = omega (arith, le, f.from);
  first = λ q n same before. elim (front_or_behind x xs q n) [
    | inl own ↦ absurd (omega (arith, lt, f.from, same, ap (λ (y : PathRoute). y.spi) own))
    | inr more ↦ f.first q more same before
  ];
}

first_of : (least : ℕ) (ps : List PathRoute) (p : PathRoute) → Ascends path_name ps → Contains (firsts least ps) p → IsFirst least ps p
first_of least [] p r m = absurd (no_member p m)
first_of least (x ∷ xs) p r m = elim (firsts_cases least x xs) [
  | inl skip ↦
      first_behind least least x p xs (omega arith) skip.0 (first_of least xs p r.1 (subst (λ (l : List PathRoute). Contains l p) skip.1 m))
  | inr take ↦ elim (front_or_behind x (firsts (x.spi + 1) xs) p (subst (λ (l : List PathRoute). Contains l p) take.1 m)) [
    | inl own ↦ subst (IsFirst least (x ∷ xs)) own (first_itself least x xs r take.0)
    | inr later ↦
        let from : least ≤ x.spi = take.0 in
        first_behind least (x.spi + 1) x p xs (omega (arith, from)) (omega arith) (first_of (x.spi + 1) xs p r.1 later)
  ]
]

has_first : (least : ℕ) (ps : List PathRoute) (q : PathRoute) → Ascends path_name ps → Contains ps q → least ≤ q.spi → (p : PathRoute) × Contains (firsts least ps) p × (p.spi ≡ q.spi)
has_first least [] q r m le = absurd (no_member q m)
has_first least (x ∷ xs) q r m le = elim (firsts_cases least x xs) [
  | inl skip ↦ elim (front_or_behind x xs q m) [
    | inl own ↦ absurd (omega (arith, skip.0, le, ap (λ (y : PathRoute). y.spi) own))
    | inr more ↦ let f = has_first least xs q r.1 more le in (f.0, subst (λ (l : List PathRoute). Contains l f.0) (sym skip.1) f.1, f.2)
  ]
  | inr take ↦
      let front : Contains (firsts least (x ∷ xs)) x = subst (λ (l : List PathRoute). Contains l x) (sym take.1) (at_front x (firsts (x.spi + 1) xs)) in
      elim (cases_eq x.spi q.spi) [
        | inl same ↦ (x, front, same)
        | inr other ↦ elim (front_or_behind x xs q m) [
          | inl own ↦ absurd (other (ap (λ (y : PathRoute). y.spi) own))
          | inr more ↦
              let rises : x.spi ≤ q.spi = head_le x.spi q.spi x.rd q.rd (all_member (λ (y : PathRoute). IsBefore (path_name x) (path_name y)) xs q r.0 more) in
              let f = has_first (x.spi + 1) xs q r.1 more (omega (arith, rises, other)) in
              (f.0, subst (λ (l : List PathRoute). Contains l f.0) (sym take.1) (behind x (firsts (x.spi + 1) xs) f.0 f.1), f.2)
        ]
      ]
]

-- ---- the path route that is taken

same_number : (n : ℕ) → nat_cmp n n ≡ Equal
same_number n = tied_itself nat_cmp_total n

-- of one SPI the lower RD comes first
before_by_rd : (p q : PathRoute) → q.spi ≡ p.spi → IsBefore q.rd p.rd → IsBefore (path_name q) (path_name p)
before_by_rd p q same before =
    subst (λ (n : ℕ). IsBefore (path_name q) (n ∷ p.rd)) same (ap (λ (o : Ordering). ordering_then o (slice_cmp nat_cmp q.rd p.rd)) (same_number q.spi) ∙ before)

taken : (roster : Entries) (routes : List PeerRoute) (ps : List PathRoute) (p : PathRoute) → Accepted roster routes ps → IsFirst 0 ps p → IsTaken roster routes p
taken roster routes ps p a f = record {
  shown = a.each p f.there;
  lowest = λ q s same before.
      let low = a.all q s in
      let spi : low.low.spi ≡ p.spi = ap (λ (l : List ℕ). get_or l 0 0) low.named ∙ same in
      f.first low.low low.there spi (subst (λ (l : List ℕ). IsBefore l (path_name p)) (sym low.named) (before_by_rd p q same before));
  lowest_peer = λ q s same rd.
      let low = a.all q s in
      let one : low.low ≡ p = same_name path_name path_peer ps low.low p a.in_order low.there f.there (low.named ∙ ap₂ (λ (n : ℕ) (l : List ℕ). n ∷ l) same rd) in
      subst (λ (y : PathRoute). y.peer ≤ q.peer) one low.lower;
}

in_map : (f : PathRoute → ServicePath) (ps : List PathRoute) (path : ServicePath) → Contains (map f ps) path → (p : PathRoute) × Contains ps p × (path ≡ f p)
in_map f [] path m = absurd (no_member path m)
in_map f (p ∷ ps) path m = elim (front_or_behind (f p) (map f ps) path m) [
  | inl own ↦ (p, at_front p ps, sym own)
  | inr more ↦ let found = in_map f ps path more in (found.0, behind p ps found.0 found.1, found.2)
]

map_has : (f : PathRoute → ServicePath) (ps : List PathRoute) (p : PathRoute) → Contains ps p → Contains (map f ps) (f p)
map_has f [] p m = absurd (no_member p m)
map_has f (x ∷ ps) p m = elim (front_or_behind x ps p m) [
  | inl own ↦ subst (λ (y : PathRoute). Contains (map f (x ∷ ps)) (f y)) own (at_front (f x) (map f ps))
  | inr more ↦ behind (f x) (map f ps) (f p) (map_has f ps p more)
]

pub path_is_taken : (roster : Entries) (routes : List PeerRoute) (table : List ServicePath) (path : ServicePath) → IsSelection roster routes table → Contains table path → IsPathOf roster routes path
path_is_taken roster routes table path s m =
    let found = in_map (path_at s.usable) (firsts 0 s.accepted) path (subst (λ (l : List ServicePath). Contains l path) s.paths m) in
    record {
      usable = s.usable;
      are_usable = s.are_usable;
      taken = found.0;
      is_taken = taken roster routes s.accepted found.0 s.are_accepted (first_of 0 s.accepted found.0 s.are_accepted.in_order found.1);
      path_is = found.2;
    }

pub accepted_has_path : (roster : Entries) (routes : List PeerRoute) (table : List ServicePath) (p : PathRoute) → IsSelection roster routes table → Shown roster routes p → (path : ServicePath) × Contains table path × (path.spi ≡ p.spi)
accepted_has_path roster routes table p s shown =
    let low = s.are_accepted.all p shown in
    let first = has_first 0 s.accepted low.low s.are_accepted.in_order low.there (omega arith) in (
      path_at s.usable first.0,
      subst (λ (l : List ServicePath). Contains l (path_at s.usable first.0)) (sym s.paths) (map_has (path_at s.usable) (firsts 0 s.accepted) first.0 first.1),
      first.2 ∙ ap (λ (l : List ℕ). get_or l 0 0) low.named,
    )

-- ---- there is a selection

pub some_selection : (roster : Entries) (routes : List PeerRoute) → (table : List ServicePath) × IsSelection roster routes table
some_selection roster routes =
    let usable = seen_all name_of peer_of (Offers roster) (same_offer roster) (offer roster) routes in
    let accepted = seen_all path_name path_peer (Shows roster) (same_show roster) (show roster) routes in (
      map (path_at usable.0) (firsts 0 accepted.0),
      record { usable = usable.0; are_usable = usable.1; accepted = accepted.0; are_accepted = accepted.1; paths = refl },
    )
