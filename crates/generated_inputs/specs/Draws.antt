-- Draws from a seed: a linear congruential generator modulo 2^64, of which the upper 31 bits are drawn (this project's own).
use Rattle.std.specs.Prelude.{ℕ, zero, suc, ◌+◌, ◌*◌, ◌/◌, ◌%◌, ◌^◌}

unfoldable pub next_state : ℕ → ℕ
next_state x = (x * 6364136223846793005 + 1442695040888963407) % 2 ^ 64

-- the state after so many draws
abbrev pub state_after : ℕ → ℕ → ℕ
state_after seed zero = seed
state_after seed (suc n) = next_state (state_after seed n)

-- what is drawn by the draw with this number, counted from 0
abbrev pub drawn : ℕ → ℕ → ℕ
drawn seed n = state_after seed (suc n) / 2 ^ 33
