-- The order of routes, and lists that are in it.
use Rattle.std.proofs.Common.{◌≡◌, ℕ, zero, suc, ◌<◌, true, false, List, [], ◌∷◌, ◌++◌, length, drop, get_or, refl, sym, ◌∙◌, ap, ap₂, subst, inl, inr, Contains, arith, true≢false, nat_cmp, is_lt, is_gt, Ordering, Less, Equal, Greater}
use Rattle.std.specs.Cmp.Lexicographic.{slice_cmp}
use Rattle.std.specs.Ordering.{MatchOrdering, ordering_then, ordering_reverse}
use Rattle.std.specs.List.Sorted.{IsPartitionedBy}
use Rattle.std.proofs.lemmas.Bool.{cases_lt}
use Rattle.std.proofs.lemmas.Cmp.{nat_list_cmp_total, tied_itself, ranked}
use Rattle.std.proofs.lemmas.List.Elements.{All-get_or, All-from_recursion}
use Rattle.bgp_update.specs.declared.routes.Nlri.{Nlri}
use Rattle.bgp_update.specs.declared.routes.Nlri.TheVariants as nlris
use Rattle.sfc_routes.specs.PeerRoutes.{PeerRoute, IsOf}
use Rattle.sfc_routes.specs.RouteOrder.{key, key_of, IsBefore, InOrder}
use Rattle.sfc_routes.proofs.MemberLemmas.{at_front, behind, all_join, all_front, all_from_members}

-- ---- comparisons of lists of numbers

pub less_from : (o : Ordering) → is_lt o ≡ true → o ≡ Less
less_from Less e = refl
less_from Equal e = absurd (true≢false (sym e))
less_from Greater e = absurd (true≢false (sym e))

then_equal : (o p : Ordering) → ordering_then o p ≡ Equal → (o ≡ Equal) × (p ≡ Equal)
then_equal Less p e = absurd (true≢false (ap is_lt e))
then_equal Equal p e = (refl, e)
then_equal Greater p e = absurd (true≢false (ap is_gt e))

equal_numbers : (x y : ℕ) → nat_cmp x y ≡ Equal → x ≡ y
equal_numbers x y e = subst (λ (o : Ordering). MatchOrdering o (x < y) (x ≡ y) (y < x)) e (ranked x y (nat_cmp x y) refl)

equal_lists : (xs ys : List ℕ) → slice_cmp nat_cmp xs ys ≡ Equal → xs ≡ ys
equal_lists [] [] e = refl
equal_lists [] (y ∷ ys) e = absurd (true≢false (ap is_lt e))
equal_lists (x ∷ xs) [] e = absurd (true≢false (ap is_gt e))
equal_lists (x ∷ xs) (y ∷ ys) e =
    let parts = then_equal (nat_cmp x y) (slice_cmp nat_cmp xs ys) e in
    ap₂ (λ (n : ℕ) (l : List ℕ). n ∷ l) (equal_numbers x y parts.0) (equal_lists xs ys parts.1)

turned : (o p : Ordering) → p ≡ ordering_reverse o → is_lt o ≡ false → (o ≡ Equal → ⊥) → p ≡ Less
turned Less p e later unlike = absurd (true≢false later)
turned Equal p e later unlike = absurd (unlike refl)
turned Greater p e later unlike = e

pub not_before_itself : (a : List ℕ) → IsBefore a a → ⊥
not_before_itself a h = true≢false (ap is_lt (sym h ∙ tied_itself nat_list_cmp_total a))

pub before_trans : (a b c : List ℕ) → IsBefore a b → IsBefore b c → IsBefore a c
before_trans a b c h g = nat_list_cmp_total.trans a b c h g

pub not_both : (a b : List ℕ) → IsBefore a b → IsBefore b a → ⊥
not_both a b h g = not_before_itself a (before_trans a b a h g)

-- what does not come before, and is another, comes behind
pub before_since : (a b : List ℕ) → is_lt (slice_cmp nat_cmp a b) ≡ false → (a ≡ b → ⊥) → IsBefore b a
before_since a b later unlike = turned (slice_cmp nat_cmp a b) (slice_cmp nat_cmp b a) (nat_list_cmp_total.antisymm b a) later (λ e. unlike (equal_lists a b e))

-- ---- numbers of routes

apart : (n : ℕ) (xs ys : List ℕ) → xs ≡ ys → (get_or xs n 0 ≡ get_or ys n 0 → ⊥) → ⊥
apart n xs ys e unlike = unlike (ap (λ (l : List ℕ). get_or l n 0) e)

at_1 : (xs ys : List ℕ) → xs ≡ ys → get_or xs 1 0 ≡ get_or ys 1 0
at_1 xs ys e = ap (λ (l : List ℕ). get_or l 1 0) e

same_nlri : (p q : ℕ) (m n : Nlri) → key p m ≡ key q n → m ≡ n
same_nlri p q (nlris.Sfir rd kind) (nlris.Sfir rd' kind') e = ap₂ (λ (r : List ℕ) (k : ℕ). nlris.Sfir r k) (ap (λ (l : List ℕ). drop 3 l) e) (ap (λ (l : List ℕ). get_or l 2 0) e)
same_nlri p q (nlris.Sfir rd kind) (nlris.Sfpr rd' spi') e = absurd (omega (arith, at_1 (key p (nlris.Sfir rd kind)) (key q (nlris.Sfpr rd' spi')) e))
same_nlri p q (nlris.Sfir rd kind) (nlris.Other kind' body') e = absurd (omega (arith, at_1 (key p (nlris.Sfir rd kind)) (key q (nlris.Other kind' body')) e))
same_nlri p q (nlris.Sfpr rd spi) (nlris.Sfir rd' kind') e = absurd (omega (arith, at_1 (key p (nlris.Sfpr rd spi)) (key q (nlris.Sfir rd' kind')) e))
same_nlri p q (nlris.Sfpr rd spi) (nlris.Sfpr rd' spi') e = ap₂ (λ (r : List ℕ) (s : ℕ). nlris.Sfpr r s) (ap (λ (l : List ℕ). drop 3 l) e) (ap (λ (l : List ℕ). get_or l 2 0) e)
same_nlri p q (nlris.Sfpr rd spi) (nlris.Other kind' body') e = absurd (omega (arith, at_1 (key p (nlris.Sfpr rd spi)) (key q (nlris.Other kind' body')) e))
same_nlri p q (nlris.Other kind body) (nlris.Sfir rd' kind') e = absurd (omega (arith, at_1 (key p (nlris.Other kind body)) (key q (nlris.Sfir rd' kind')) e))
same_nlri p q (nlris.Other kind body) (nlris.Sfpr rd' spi') e = absurd (omega (arith, at_1 (key p (nlris.Other kind body)) (key q (nlris.Sfpr rd' spi')) e))
same_nlri p q (nlris.Other kind body) (nlris.Other kind' body') e = ap₂ (λ (k : ℕ) (b : List ℕ). nlris.Other k b) (ap (λ (l : List ℕ). get_or l 2 0) e) (ap (λ (l : List ℕ). drop 3 l) e)

peer_in : (p : ℕ) (m : Nlri) → get_or (key p m) 0 0 ≡ p
peer_in p (nlris.Sfir rd kind) = refl
peer_in p (nlris.Sfpr rd spi) = refl
peer_in p (nlris.Other kind body) = refl

-- equal numbers are those of one peer and one NLRI
pub named_by : (peer : ℕ) (nlri : Nlri) (e : PeerRoute) → key_of e ≡ key peer nlri → IsOf peer nlri e
named_by peer nlri e same = record {
  of_peer = sym (peer_in e.peer e.route.nlri) ∙ (ap (λ (l : List ℕ). get_or l 0 0) same ∙ peer_in peer nlri);
  named = same_nlri e.peer peer e.route.nlri nlri same;
}

pub key_named : (peer : ℕ) (nlri : Nlri) (e : PeerRoute) → IsOf peer nlri e → key_of e ≡ key peer nlri
key_named peer nlri e is = ap₂ (λ (p : ℕ) (n : Nlri). key p n) is.of_peer is.named

-- ---- lists in order

pub front_in_order : (xs ys : List PeerRoute) → InOrder (xs ++ ys) → InOrder xs
front_in_order [] ys r = tt
front_in_order (x ∷ xs) ys r = (all_front (λ (f : PeerRoute). IsBefore (key_of x) (key_of f)) xs ys r.0, front_in_order xs ys r.1)

pub back_in_order : (xs ys : List PeerRoute) → InOrder (xs ++ ys) → InOrder ys
back_in_order [] ys r = r
back_in_order (x ∷ xs) ys r = back_in_order xs ys r.1

pub joined : (xs ys : List PeerRoute) → InOrder xs → InOrder ys → ((a b : PeerRoute) → Contains xs a → Contains ys b → IsBefore (key_of a) (key_of b)) → InOrder (xs ++ ys)
joined [] ys r s h = s
joined (x ∷ xs) ys r s h = (
  all_join (λ (f : PeerRoute). IsBefore (key_of x) (key_of f)) xs ys r.0 (all_from_members (λ (f : PeerRoute). IsBefore (key_of x) (key_of f)) ys (λ b m. h x b (at_front x xs) m)),
  joined xs ys r.1 s (λ a b m n. h a b (behind x xs a m) n),
)

pub at_places : (xs : List PeerRoute) → InOrder xs → (i j : ℕ) (d : PeerRoute) → i < j → j < length xs → IsBefore (key_of (get_or xs i d)) (key_of (get_or xs j d))
at_places [] r i j d lt h = absurd (omega arith)
at_places (x ∷ xs) r zero zero d lt h = absurd (omega arith)
at_places (x ∷ xs) r zero (suc j) d lt h =
    let P : PeerRoute → Type 0 = λ f. IsBefore (key_of x) (key_of f) in
    All-get_or P xs j d (omega (arith, h)) (All-from_recursion P xs r.0)
at_places (x ∷ xs) r (suc i) zero d lt h = absurd (omega arith)
at_places (x ∷ xs) r (suc i) (suc j) d lt h = at_places xs r.1 i j d (omega (arith, lt)) (omega (arith, h))

-- the routes before some numbers stand in front of the others
pub in_parts : (k : List ℕ) (xs : List PeerRoute) → InOrder xs → IsPartitionedBy (λ (e : PeerRoute). is_lt (slice_cmp nat_cmp (key_of e) k)) xs
in_parts k xs r i j d le h e = elim (cases_lt i j) [
  | inl lt ↦ ap is_lt (before_trans (key_of (get_or xs i d)) (key_of (get_or xs j d)) k (at_places xs r i j d lt h) (less_from (slice_cmp nat_cmp (key_of (get_or xs j d)) k) e))
  | inr ge ↦ subst (λ (n : ℕ). is_lt (slice_cmp nat_cmp (key_of (get_or xs n d)) k) ≡ true) (omega (arith, le, ge)) e
]
