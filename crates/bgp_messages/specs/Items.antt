-- An item: a code or type, the length of its value, its value.
use Rattle.std.specs.Prelude.{◌≡◌, ℕ, ◌<◌, List, ◌∷◌, ◌++◌, length}

-- the bytes are an item and what follows it
pub record Splits (bytes : List ℕ) (code : ℕ) (value rest : List ℕ) : Type 0 where
  pub parts : bytes ≡ code ∷ length value ∷ value ++ rest
  pub short : length value < 256
