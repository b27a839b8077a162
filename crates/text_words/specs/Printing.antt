-- What a printer leaves that appends in pieces, where there is no memory for one of them.
use Rattle.std.specs.Prelude.{◌≡◌, ℕ, List, ◌++◌}

-- a front of the text, which may be all of it or nothing, stands behind what was there
pub record AppendsFront (before text after : List ℕ) : Type 0 where
  pub front : List ℕ
  pub rest : List ℕ
  pub cut : front ++ rest ≡ text
  pub appended : after ≡ before ++ front
