-- Edits of a header where it lies.
use Rattle.std.specs.Prelude.{◌≡◌, ℕ, ◌+◌, ◌-◌, ◌*◌, ◌/◌, ◌%◌, ◌==◌, if◌then◌else◌, List, take, drop, slice_index, slice_set}
use Rattle.wire_base.specs.Numbers.{big_endian}
use Rattle.nsh_headers.specs.declared.heads.NshHead.{NshHead}

-- the TTL after one hop: one less, and 63 after 0 (RFC 8300, section 2.2)
abbrev pub lowered : ℕ → ℕ
lowered ttl = if ttl == 0 then 63 else ttl - 1

-- the 6 bits of the TTL, of a header or not
abbrev pub ttl_in : List ℕ → ℕ
ttl_in b = big_endian (take 2 b) / 64 % 64

-- The TTL is the given one; the 4 bits above it, the 6 below it and all other bytes stay.
pub record TtlBecomes (old new : List ℕ) (ttl : ℕ) : Type 0 where
  pub field : ttl_in new ≡ ttl
  pub above : big_endian (take 2 new) / 4096 ≡ big_endian (take 2 old) / 4096
  pub below : big_endian (take 2 new) % 64 ≡ big_endian (take 2 old) % 64
  pub behind : drop 2 new ≡ drop 2 old

-- the bytes with this Length, the lower 6 bits of the second byte, of a header or not; all else stays
abbrev pub with_length : List ℕ → ℕ → List ℕ
with_length b words = slice_set b 1 (slice_index b 1 / 64 * 64 + words)

-- the head with another TTL, with another Length, and with another SI
abbrev pub with_ttl : NshHead → ℕ → NshHead
with_ttl h t = record h { base = record h.base { ttl = t } }

abbrev pub with_words : NshHead → ℕ → NshHead
with_words h w = record h { base = record h.base { words = w } }

abbrev pub with_si : NshHead → ℕ → NshHead
with_si h s = record h { path = record h.path { si = s } }
