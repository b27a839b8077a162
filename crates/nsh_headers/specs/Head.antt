-- The first 8 bytes of a Network Service Header (RFC 8300, sections 2.2 and 2.3), by numbers.
use Rattle.std.specs.Prelude.{◌≡◌, ℕ, ◌+◌, ◌*◌, ◌<◌, ◌≤◌, ◌⊎◌, Bool, true, false, List, length, take, drop, slice_index}
use Rattle.wire_base.specs.Numbers.{big_endian}
use Rattle.nsh_headers.specs.declared.heads.NshHead.{NshHead}

-- a bit as a number
abbrev pub bit : Bool → ℕ
bit true = 1
bit false = 0

-- each field is in its range; that of the others is their type's
pub record HeadFits (h : NshHead) : Type 0 where
  pub ttl : h.base.ttl < 64
  pub words : h.base.words < 64
  pub spare4 : h.base.spare4 < 16
  pub md : h.base.md < 16

-- The front of b spells the head, with version 0: in the first 2 bytes O, an unassigned bit, 6 bits of TTL
-- and 6 of Length, in the third 4 unassigned bits and the MD Type, in the fourth the Next Protocol, then 3
-- bytes of SPI and one of SI.
pub record IsHead (b : List ℕ) (h : NshHead) : Type 0 where
  pub long : 8 ≤ length b
  pub first_word : big_endian (take 2 b) ≡ 8192 * bit h.base.oam + 4096 * bit h.base.spare1 + 64 * h.base.ttl + h.base.words
  pub third : slice_index b 2 ≡ 16 * h.base.spare4 + h.base.md
  pub next : slice_index b 3 ≡ h.base.next
  pub spi : big_endian (take 3 (drop 4 b)) ≡ h.path.spi
  pub si : slice_index b 7 ≡ h.path.si
  pub fits : HeadFits h

-- A Length that fits the MD Type: 6 words for type 1, 2 or more for type 2 (RFC 8300, section 2.2).
abbrev pub IsSized : ℕ → ℕ → Type 0
IsSized md words = ((md ≡ 1) × (words ≡ 6)) ⊎ ((md ≡ 2) × (2 ≤ words))
