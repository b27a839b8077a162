-- Why bytes are no header, as soon as they show it (RFC 8300, sections 2.2 and 2.5.1). The order of the refusals is this project's own.
use Rattle.std.specs.Prelude.{◌≡◌, ℕ, ◌+◌, ◌*◌, ◌<◌, ◌≤◌, ◌⊎◌, List, ◌++◌, length, drop}
use Rattle.nsh_headers.specs.declared.faults.NshFault.{NshFault}
use Rattle.nsh_headers.specs.declared.faults.NshFault.TheVariants.{Short, Context}
use Rattle.nsh_headers.specs.Refusal.{HeadBreaks, version_in, md_in, words_in}
use Rattle.nsh_metadata.specs.Item.{Item, AreItems, items_bytes, item_size}
use Rattle.nsh_metadata.specs.Header.{Header, BeginsWith}

-- In a header with items one stands at the place, behind whole items, whose 4 first bytes are there and whose
-- padded end is past the header's end.
pub record PassesEnd (b : List ℕ) (place : ℕ) : Type 0 where
  pub version : version_in b ≡ 0
  pub md : md_in b ≡ 2
  pub words : 2 ≤ words_in b
  pub before : List Item
  pub rest : List ℕ
  pub whole : AreItems before
  pub split : drop 8 b ≡ items_bytes before ++ rest
  pub here : place ≡ 8 + length (items_bytes before)
  pub inside : place < 4 * words_in b
  pub shown : 4 ≤ length rest
  pub past : 4 * words_in b < place + item_size rest

-- The first refusal from the left that needs no end of the input: one of the head, else an item.
abbrev pub Breaks : List ℕ → NshFault → Type 0
Breaks b (Context place) = PassesEnd b place
Breaks b f = HeadBreaks b f

-- Nothing is refused, and no front of the bytes is a header: more bytes are awaited.
pub record Held (b : List ℕ) : Type 0 where
  pub unbroken : (f : NshFault) → Breaks b f → ⊥
  pub partial : (h : Header) (n : ℕ) → BeginsWith b h n → ⊥

-- What a decoder of all the input answers: that refusal, else that the input is too short.
abbrev pub Refused : List ℕ → NshFault → Type 0
Refused b f = Breaks b f ⊎ (Held b × (f ≡ Short (length b)))
