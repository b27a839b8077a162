-- What the bytes at the front of a stream show of the next message's header (RFC 4271, section 4.1).
use Rattle.std.specs.Prelude.{◌≡◌, ◌≢◌, ℕ, ◌+◌, ◌*◌, ◌<◌, ◌≤◌, ◌⊎◌, List, slice_index}

-- the first n bytes are those of the marker
abbrev pub Marked : ℕ → List ℕ → Type 0
Marked n bytes = (k : ℕ) → k < n → slice_index bytes k ≡ 255

-- the length field, of the whole message
abbrev pub length_of : List ℕ → ℕ
length_of bytes = 256 * slice_index bytes 16 + slice_index bytes 17

-- the type field
abbrev pub kind_of : List ℕ → ℕ
kind_of bytes = slice_index bytes 18

-- a length that no message has
abbrev pub OutOfRange : ℕ → Type 0
OutOfRange len = (len < 19) ⊎ (4096 < len)

-- a type that no message has
abbrev pub UnknownType : ℕ → Type 0
UnknownType kind = (kind ≡ 0) ⊎ (4 < kind)

-- a length that no message of this type has: below 29 for OPEN, 23 for UPDATE, 21 for NOTIFICATION, or not 19 for KEEPALIVE
abbrev pub Unfit : ℕ → ℕ → Type 0
Unfit kind len = ((kind ≡ 1) × (len < 29)) ⊎ (((kind ≡ 2) × (len < 23)) ⊎ (((kind ≡ 3) × (len < 21)) ⊎ ((kind ≡ 4) × (len ≢ 19))))

-- a length that a message of this type may have
pub record LengthFits (kind len : ℕ) : Type 0 where
  pub an_open : kind ≡ 1 → 29 ≤ len
  pub an_update : kind ≡ 2 → 23 ≤ len
  pub a_notification : kind ≡ 3 → 21 ≤ len
  pub a_keep_alive : kind ≡ 4 → len ≡ 19
