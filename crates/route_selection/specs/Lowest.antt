-- Of values with a name and a peer, of which several may have one name: that of the lowest peer, in the order of the names.
use Rattle.std.specs.Prelude.{◌≡◌, ℕ, ◌≤◌, ◌⊎◌, List, [], ◌∷◌, Contains}
use Rattle.std.specs.List.{AllByRecursion}
use Rattle.sfc_routes.specs.RouteOrder.{IsBefore}

-- the names rise strictly, so there is one value of a name
abbrev pub Ascends : {X : Type 0} → (X → List ℕ) → List X → Type 0
Ascends {X} name [] = Unit {0}
Ascends {X} name (x ∷ xs) = AllByRecursion (λ (y : X). IsBefore (name x) (name y)) xs × Ascends name xs

-- the list has a value of the same name, of a peer that is not higher
pub record HasLower {X : Type 0} (name : X → List ℕ) (peer : X → ℕ) (xs : List X) (x : X) : Type 0 where
  pub low : X
  pub there : Contains xs low
  pub named : name low ≡ name x
  pub lower : peer low ≤ peer x

-- of all that are seen, that of the lowest peer of each name, in the order of the names
pub record AreLowest {X : Type 0} (name : X → List ℕ) (peer : X → ℕ) (Seen : X → Type 0) (xs : List X) : Type 0 where
  pub in_order : Ascends name xs
  pub each : (x : X) → Contains xs x → Seen x
  pub all : (x : X) → Seen x → HasLower name peer xs x

-- one value more is seen
pub record Joins {X : Type 0} (name : X → List ℕ) (peer : X → ℕ) (one : X) (old new : List X) : Type 0 where
  pub in_order : Ascends name new
  pub was : (x : X) → Contains new x → (one ≡ x) ⊎ Contains old x
  pub stays : (x : X) → Contains old x → HasLower name peer new x
  pub joins : HasLower name peer new one
