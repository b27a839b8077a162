-- Which tables the lookups of a walk see, where each has its table.
use Rattle.std.specs.Prelude.{◌≡◌, ℕ, ◌+◌, List, [], ◌∷◌}
use Rattle.path_selection.specs.Paths.{ServicePath}

-- these are the first tables, in order: the k-th lookup, counted from 0, sees the k-th table
abbrev pub AreFirst : (ℕ → List ServicePath) → List (List ServicePath) → Type 0
AreFirst at [] = Unit {0}
AreFirst at (table ∷ tables) = (table ≡ at 0) × AreFirst (λ k. at (k + 1)) tables
