-- What brings one table to another, path by path; no public clause stands on it.
use Rattle.std.specs.Prelude.{◌≡◌, ◌<◌, ◌≤◌, ◌⊎◌, ℕ, List, ◌∷◌, ◌++◌, [], length, take, drop}
use Rattle.std.specs.List.{HoldsAt}
use Rattle.path_selection.specs.declared.changes.Change.{Change}
use Rattle.path_selection.specs.declared.changes.Change.TheVariants.{Put}
use Rattle.path_selection.specs.Paths.{IsTable, ServicePath}
use Rattle.table_publish.specs.Publications.{changed_by}
use Rattle.table_publish.specs.declared.differences.Next.{Next}
use Rattle.table_publish.specs.declared.differences.Next.TheVariants.{Goes, Joins, Stays}

-- the changes so far make the first paths of the new table of as many or fewer of the old one, and leave the others of the old one
pub record Brings (old new : List ServicePath) (gone made : ℕ) (changes : List Change) : Type 0 where
  pub gone_some : gone ≤ length old
  pub made_some : made ≤ length new
  pub so_far : changed_by old changes ≡ take made new ++ drop gone old
  pub table : IsTable (take made new ++ drop gone old)

-- a path of the list at a place
abbrev pub At : List ServicePath → ℕ → ServicePath → Type 0
At table place path = (place < length table) × HoldsAt (λ p. path ≡ p) table place

-- which path comes next: one that the new table has not, one that the old table has not, or one with an identifier of both
abbrev pub IsNext : List ServicePath → List ServicePath → ℕ → ℕ → Next → Type 0
IsNext old new gone made Goes = (gone < length old) × (made < length new → (p q : ServicePath) → At old gone p → At new made q → p.spi < q.spi)
IsNext old new gone made Joins = (made < length new) × (gone < length old → (p q : ServicePath) → At old gone p → At new made q → q.spi < p.spi)
IsNext old new gone made Stays = (gone < length old) × (made < length new) × ((p q : ServicePath) → At old gone p → At new made q → q.spi ≡ p.spi)

-- the path stands in the place of the one with its identifier, where it is another one
abbrev pub Replaces : ServicePath → ServicePath → List Change → List Change → Type 0
Replaces was path before after = ((was ≡ path) × (after ≡ before)) ⊎ (after ≡ before ++ Put path ∷ [])
