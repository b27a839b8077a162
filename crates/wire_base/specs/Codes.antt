-- Tables of codes and their names.
use Rattle.std.specs.Prelude.{◌≡◌, ◌≢◌, ℕ, ◌<◌, ◌==◌, Bool, not, ◌&&◌, nat_lt, Option, Some, List, [], ◌∷◌, length, find, All}
use Rattle.std.specs.List.{list_all, Contains}
use Rattle.std.specs.Option.{option_map}
use Rattle.std.specs.Str.{bytes_eq}

-- a code and its name
pub record Row : Type 0 where
  pub code : ℕ
  pub name : List ℕ

abbrev pub row : ℕ → List ℕ → Row
row code name = record { code = code; name = name }

-- the codes rise, and no two rows have one name
abbrev pub IsTable : List Row → Type 0
IsTable [] = Unit {0}
IsTable (r ∷ rows) = All (λ s. (r.code < s.code) × (r.name ≢ s.name)) rows × IsTable rows

-- whether the code of a row is above all codes, and its name is not in the table
abbrev pub is_new : List Row → Row → Bool
is_new rows new = list_all (λ r. nat_lt r.code new.code && not (bytes_eq r.name new.name)) rows

-- whether a table of at most so many rows takes a row behind its rows
abbrev pub takes : ℕ → List Row → Row → Bool
takes most rows new = nat_lt (length rows) most && is_new rows new

-- the name of a code: that of the row with the code
abbrev pub name_in : List Row → ℕ → Option (List ℕ)
name_in rows code = option_map (λ r. r.name) (find (λ r. r.code == code) rows)

-- the code of a name: that of the row with the name
abbrev pub code_in : List Row → List ℕ → Option ℕ
code_in rows name = option_map (λ r. r.code) (find (λ r. bytes_eq r.name name) rows)

-- each row is found by its code and by its name, and only rows are found
pub record IsFoundBothWays (rows : List Row) : Type 0 where
  pub names : (r : Row) → Contains rows r → name_in rows r.code ≡ Some r.name
  pub codes : (r : Row) → Contains rows r → code_in rows r.name ≡ Some r.code
  pub named : (code : ℕ) (name : List ℕ) → name_in rows code ≡ Some name → Contains rows (record { code = code; name = name })
  pub coded : (code : ℕ) (name : List ℕ) → code_in rows name ≡ Some code → Contains rows (record { code = code; name = name })
