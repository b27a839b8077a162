-- Members of lists, and what holds of all of them.
use Rattle.std.proofs.Common.{◌≡◌, ℕ, zero, suc, ◌<◌, List, [], ◌∷◌, ◌++◌, length, take, drop, get_or, refl, ap, inl, inr, ◌⊎◌, Contains, arith}
use Rattle.std.specs.List.{AllByRecursion}
use Rattle.std.proofs.lemmas.List.Elements.{All-contains, All-from_recursion}

pub at_front : {X : Type 0} (x : X) (xs : List X) → Contains (x ∷ xs) x
at_front x xs = (zero, omega arith, refl)

pub behind : {X : Type 0} (y : X) (xs : List X) (x : X) → Contains xs x → Contains (y ∷ xs) x
behind y xs x h = (suc h.0, omega (arith, h.1), h.2)

by_place : {X : Type 0} (y : X) (xs : List X) (x : X) (k : ℕ) → k < suc (length xs) → get_or (y ∷ xs) k x ≡ x → (y ≡ x) ⊎ Contains xs x
by_place y xs x zero h e = inl e
by_place y xs x (suc k) h e = inr (k, omega (arith, h), e)

-- a member is the first, or behind it
pub front_or_behind : {X : Type 0} (y : X) (xs : List X) (x : X) → Contains (y ∷ xs) x → (y ≡ x) ⊎ Contains xs x
front_or_behind y xs x h = by_place y xs x h.0 h.1 h.2

pub no_member : {X : Type 0} (x : X) → Contains [] x → ⊥
no_member x h = absurd (omega (arith, h.1))

pub all_join : {X : Type 0} (P : X → Type 0) (xs ys : List X) → AllByRecursion P xs → AllByRecursion P ys → AllByRecursion P (xs ++ ys)
all_join P [] ys a b = b
all_join P (x ∷ xs) ys a b = (a.0, all_join P xs ys a.1 b)

pub all_front : {X : Type 0} (P : X → Type 0) (xs ys : List X) → AllByRecursion P (xs ++ ys) → AllByRecursion P xs
all_front P [] ys a = tt
all_front P (x ∷ xs) ys a = (a.0, all_front P xs ys a.1)

pub all_back : {X : Type 0} (P : X → Type 0) (xs ys : List X) → AllByRecursion P (xs ++ ys) → AllByRecursion P ys
all_back P [] ys a = a
all_back P (x ∷ xs) ys a = all_back P xs ys a.1

pub all_member : {X : Type 0} (P : X → Type 0) (xs : List X) (x : X) → AllByRecursion P xs → Contains xs x → P x
all_member P xs x a h = All-contains P xs x (All-from_recursion P xs a) h

pub all_from_members : {X : Type 0} (P : X → Type 0) (xs : List X) → ((x : X) → Contains xs x → P x) → AllByRecursion P xs
all_from_members P [] h = tt
all_from_members P (x ∷ xs) h = (h x (at_front x xs), all_from_members P xs (λ y m. h y (behind x xs y m)))

-- a list around a place
pub parts_at : {X : Type 0} (xs : List X) (i : ℕ) (d : X) → i < length xs → xs ≡ take i xs ++ get_or xs i d ∷ drop (suc i) xs
parts_at [] i d h = absurd (omega arith)
parts_at (x ∷ xs) zero d h = refl
parts_at {X} (x ∷ xs) (suc i) d h = ap (λ (l : List X). x ∷ l) (parts_at xs i d (omega (arith, h)))
