-- What a contract sees of a feed.
use Rattle.std.specs.Prelude.{ℕ, Bool, List}
use Rattle.pcapng_io.specs.declared.sections.Section.{Section}

-- whether there was no memory before; the section as far as it was read; the block that gave the last frame, while it is lent;
-- the bytes that are not used up, and the room for more; how many bytes were used
pub record Kept : Type 0 where
  pub failed : Bool
  pub section : Section
  pub lent : List ℕ
  pub rest : List ℕ
  pub room : List ℕ
  pub place : ℕ
