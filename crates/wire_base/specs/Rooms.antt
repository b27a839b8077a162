-- What a buffer of fixed room holds.
use Rattle.std.specs.Prelude.{ℕ, List}

-- the most bytes that it can hold, and those that it holds
pub record Roomed : Type 0 where
  pub room : ℕ
  pub bytes : List ℕ
