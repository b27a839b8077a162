-- Scripted lists of tables.
use Rattle.std.specs.Prelude.{◌≡◌, ℕ, ◌+◌, ◌^◌, ◌<◌, ◌≤◌, List, [], ◌∷◌, length, slice_index}
use Rattle.std.proofs.Common.{zero-le, le_refl}
use Rattle.path_selection.specs.Paths.{ServicePath}
use Rattle.path_selection.specs.Published.{Published, VersionsFrom, Rises}

-- the tables, numbered from the first version on
abbrev pub numbered : ℕ → List (List ServicePath) → List Published
numbered first [] = []
numbered first (t ∷ ts) = record { version = first; table = t } ∷ numbered (first + 1) ts

numbered-from : (first : ℕ) (ts : List (List ServicePath)) → VersionsFrom first (numbered first ts)
numbered-from first [] = tt
numbered-from first (t ∷ ts) = (le_refl first, numbered-from (first + 1) ts)

pub numbered-rises : (first : ℕ) (ts : List (List ServicePath)) → Rises (numbered first ts)
numbered-rises first [] = tt
numbered-rises first (t ∷ ts) = (zero-le, numbered-from (first + 1) ts)

-- the picks do not fall, and name some of `count` versions from the first on, all below 2^64
abbrev pub IsScript : ℕ → ℕ → List ℕ → Type 0
IsScript count first picks =
    (first + count ≤ 2 ^ 64)
    × ((i : ℕ) → i < length picks → (first ≤ slice_index picks i) × (slice_index picks i < first + count))
    × ((i j : ℕ) → i ≤ j → j < length picks → slice_index picks i ≤ slice_index picks j)

-- a script is seen as its tables, the version of the first of them, the picks that are left, and the version seen last
pub record Scripted : Type 0 where
  pub tables : List (List ServicePath)
  pub first : ℕ
  pub left : List ℕ
  pub seen : ℕ

-- the next pick is taken, and the last one stays
abbrev pub TakesPick : List ℕ → ℕ → List ℕ → Type 0
TakesPick [] version rest = ⊥
TakesPick (pick ∷ []) version rest = (version ≡ pick) × (rest ≡ pick ∷ [])
TakesPick (pick ∷ next ∷ later) version rest = (version ≡ pick) × (rest ≡ next ∷ later)
