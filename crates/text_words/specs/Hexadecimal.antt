-- Bytes as hexadecimal digits in lower case, two for each byte, the high four bits first.
use Rattle.std.specs.Prelude.{◌≡◌, ℕ, ◌/◌, ◌%◌, ◌≤◌, ◌&&◌, ◌||◌, nat_le, Bool, List, [], ◌∷◌, length}
use Rattle.wire_base.specs.Numbers.{AreBytes}
use Rattle.hex.specs.Hex.{encode_lower}
-- exactly n bytes
pub use Rattle.wire_base.specs.Addresses.{IsOctets}

-- the digits of some bytes
abbrev pub hexadecimal : List ℕ → List ℕ
hexadecimal bytes = encode_lower bytes

-- at most n bytes
abbrev pub IsUpToOctets : ℕ → List ℕ → Type 0
IsUpToOctets n bytes = (length bytes ≤ n) × AreBytes bytes

-- a number below 65536 as four digits
abbrev pub four_digits : ℕ → List ℕ
four_digits n = hexadecimal (n / 256 ∷ n % 256 ∷ [])

-- bytes as digits, with a dash for no bytes
abbrev pub octets_or_dash : List ℕ → List ℕ
octets_or_dash [] = 45 ∷ []
octets_or_dash (b ∷ bs) = hexadecimal (b ∷ bs)

-- 0 to 9 and a to f
abbrev pub is_lower_digit : ℕ → Bool
is_lower_digit c = (nat_le 48 c && nat_le c 57) || (nat_le 97 c && nat_le c 102)
