-- The Internet checksum (RFC 1071), and how it follows one word that changes (RFC 1624, equation 3).
use Rattle.std.specs.Prelude.{ℕ, zero, suc, ◌+◌, ◌-◌, ◌%◌, List}
use Rattle.net_frames.specs.Words.{word, with_word}

-- a sum with its carries added in until none is left: 0 for 0, else the number from 1 to 65,535 that differs from it
-- by a multiple of 65,535
unfoldable pub fold : ℕ → ℕ
fold zero = 0
fold (suc n) = n % 65535 + 1

-- the checksum over words of which one was `before` and is `after`: not (fold (not checksum + not before + after))
unfoldable pub adjust : ℕ → ℕ → ℕ → ℕ
adjust checksum before after = 65535 - fold ((65535 - checksum) + (65535 - before) + after)

-- the bytes with this word at i, and the checksum at `sum` adjusted for it
unfoldable pub reworded : List ℕ → ℕ → ℕ → ℕ → List ℕ
reworded bytes sum i number = with_word (with_word bytes i number) sum (adjust (word bytes sum) (word bytes i) number)
