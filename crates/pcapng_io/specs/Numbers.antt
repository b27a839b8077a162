-- The numbers of a section in its order of bytes: the highest first, or the lowest.
use Rattle.std.specs.Prelude.{ℕ, ◌+◌, ◌*◌, ◌^◌, Bool, List, drop, if◌then◌else◌}
use Rattle.byteorder.specs.Endian.{big_number, little_number}

-- the number in the 2 bytes from a place on
unfoldable pub half_at : Bool → ℕ → List ℕ → ℕ
half_at big at bytes = if big then big_number 2 (drop at bytes) else little_number 2 (drop at bytes)

-- the number in the 4 bytes from a place on
unfoldable pub word_at : Bool → ℕ → List ℕ → ℕ
word_at big at bytes = if big then big_number 4 (drop at bytes) else little_number 4 (drop at bytes)

-- the number in the 8 bytes from a place on
abbrev pub long_at : Bool → ℕ → List ℕ → ℕ
long_at big at bytes =
    if big then word_at big at bytes * 2 ^ 32 + word_at big (at + 4) bytes else word_at big (at + 4) bytes * 2 ^ 32 + word_at big at bytes
