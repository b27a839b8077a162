-- Why bytes are no head (RFC 8300, section 2.2): the first refusal from the left, as soon as its bytes are there. The order
-- is this project's own.
use Rattle.std.specs.Prelude.{◌≡◌, ◌≢◌, ℕ, ◌/◌, ◌%◌, ◌<◌, ◌⊎◌, List, length, slice_index}
use Rattle.nsh_headers.specs.declared.faults.NshFault.{NshFault}
use Rattle.nsh_headers.specs.declared.faults.NshFault.TheVariants.{Short, Version, MdType, Length}

-- fields of the first three bytes, of a header or not
abbrev pub version_in : List ℕ → ℕ
version_in b = slice_index b 0 / 64

abbrev pub words_in : List ℕ → ℕ
words_in b = slice_index b 1 % 64

abbrev pub md_in : List ℕ → ℕ
md_in b = slice_index b 2 % 16

-- a Length that the MD Type does not allow
abbrev pub IsWrongLength : ℕ → ℕ → Type 0
IsWrongLength md words = ((md ≡ 1) × (words ≢ 6)) ⊎ ((md ≡ 2) × (words < 2))

-- The refusals that need no end of the input: a version other than 0, told at the first byte, an MD Type
-- other than 1 and 2, told at the third, then a Length that does not fit it.
abbrev pub HeadBreaks : List ℕ → NshFault → Type 0
HeadBreaks b (Version n) = (0 < length b) × (n ≡ version_in b) × (n ≢ 0)
HeadBreaks b (MdType n) = (2 < length b) × (version_in b ≡ 0) × (n ≡ md_in b) × (n ≢ 1) × (n ≢ 2)
HeadBreaks b (Length n) = (2 < length b) × (version_in b ≡ 0) × (n ≡ words_in b) × IsWrongLength (md_in b) n
HeadBreaks b _ = ⊥

-- Too few bytes for a head, and nothing wrong in them.
pub record IsCut (b : List ℕ) : Type 0 where
  pub short : length b < 8
  pub unbroken : (f : NshFault) → HeadBreaks b f → ⊥

-- What a decoder of the head answers: the first of these refusals, else that the input is too short.
abbrev pub HeadRefused : List ℕ → NshFault → Type 0
HeadRefused b f = HeadBreaks b f ⊎ (IsCut b × (f ≡ Short (length b)))
