-- Lists of published tables.
use Rattle.std.specs.Prelude.{◌≡◌, ℕ, ◌+◌, ◌≤◌, ◌==◌, if◌then◌else◌, List, [], ◌∷◌, ◌++◌, Option, Some, None}
use Rattle.std.proofs.Common.{zero-le}
use Rattle.path_selection.specs.declared.lookups.Found.{Found}
use Rattle.path_selection.specs.Answers.{IsAnswer}
use Rattle.path_selection.specs.Paths.{ServicePath}

-- a table and its version
pub record Published : Type 0 where
  pub version : ℕ
  pub table : List ServicePath

-- the table of the version, where the list has it
abbrev pub table_at : List Published → ℕ → Option (List ServicePath)
table_at [] version = None
table_at (p ∷ ps) version = if p.version == version then Some p.table else table_at ps version

-- the list begins with the other
abbrev pub StartsWith : {A : Type 0} → List A → List A → Type 0
StartsWith {A} all front = (rest : List A) × (all ≡ front ++ rest)

-- versions from n on, rising
abbrev pub VersionsFrom : ℕ → List Published → Type 0
VersionsFrom n [] = Unit {0}
VersionsFrom n (p ∷ ps) = (n ≤ p.version) × VersionsFrom (p.version + 1) ps

abbrev pub Rises : List Published → Type 0
Rises known = VersionsFrom 0 known

-- the answer is that of the table that the list has under the version named
abbrev pub Answers : List Published → ℕ → ℕ → Found → Type 0
Answers known spi si found =
    (table : List ServicePath) × (table_at known found.version ≡ Some table) × IsAnswer table spi si found.answer

-- one table alone
abbrev pub one_table : ℕ → List ServicePath → List Published
one_table version table = record { version = version; table = table } ∷ []

pub one_table-rises : (version : ℕ) (table : List ServicePath) → Rises (one_table version table)
one_table-rises version table = (zero-le, tt)
