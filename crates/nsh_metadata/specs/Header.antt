-- A whole Network Service Header and its spelling (RFC 8300, section 2).
use Rattle.std.specs.Prelude.{◌≡◌, ℕ, ◌+◌, ◌*◌, ◌≤◌, List, length, take, drop}
use Rattle.nsh_headers.specs.declared.heads.NshHead.{NshHead}
use Rattle.nsh_headers.specs.Head.{IsHead, IsSized, HeadFits}
use Rattle.nsh_metadata.specs.Item.{items_bytes, AreItems}
use Rattle.nsh_metadata.specs.declared.contexts.Context.{Context}
use Rattle.nsh_metadata.specs.declared.contexts.Context.TheVariants.{Fixed16, Items}

-- a header: its first 8 bytes and its context
pub record Header : Type 0 where
  pub head : NshHead
  pub context : Context

-- MD Type 1 has 16 bytes of context (RFC 8300, 2.4), MD Type 2 has items (2.5).
abbrev pub IsContext : List ℕ → ℕ → Context → Type 0
IsContext b md (Fixed16 bytes) = (md ≡ 1) × (length bytes ≡ 16) × (b ≡ bytes)
IsContext b md (Items items) = (md ≡ 2) × AreItems items × (b ≡ items_bytes items)

-- The bytes, all of them, spell the header: its first 8 the head, the others the context. Length counts
-- them in words of 4 and fits the MD Type.
pub record IsNsh (b : List ℕ) (h : Header) : Type 0 where
  pub front : IsHead b h.head
  pub size : length b ≡ 4 * h.head.base.words
  pub sized : IsSized h.head.base.md h.head.base.words
  pub behind : IsContext (drop 8 b) h.head.base.md h.context

-- The first n bytes spell the header.
pub record BeginsWith (b : List ℕ) (h : Header) (n : ℕ) : Type 0 where
  pub within : n ≤ length b
  pub spelled : IsNsh (take n b) h

-- the MD Type and the bytes of a context
abbrev pub md_of : Context → ℕ
md_of (Fixed16 bytes) = 1
md_of (Items items) = 2

abbrev pub context_bytes : Context → List ℕ
context_bytes (Fixed16 bytes) = bytes
context_bytes (Items items) = items_bytes items

-- what a header keeps so that it has a spelling
pub record HasSpelling (head : NshHead) (context : Context) : Type 0 where
  pub ranges : HeadFits head
  pub md : head.base.md ≡ md_of context
  pub words : 4 * head.base.words ≡ 8 + length (context_bytes context)
