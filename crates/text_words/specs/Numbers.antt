-- Numbers in texts: std's `decimal`, which has no leading zero and no sign.
use Rattle.std.specs.Prelude.{ℕ, ◌≤◌}

-- a number from least to most
abbrev pub IsWithin : ℕ → ℕ → ℕ → Type 0
IsWithin least most n = (least ≤ n) × (n ≤ most)
