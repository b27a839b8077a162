-- What a contract sees of a feed.
use Rattle.std.specs.Prelude.{ℕ, Bool, List}
use Rattle.control_files.specs.declared.segments.Mark.{Mark}

-- whether there was no memory before; the numbers of the peers; the mark of the segment that was given last; its bytes in the file,
-- while they are lent; the bytes that are not used up, and the room for more; how many bytes were used
pub record Kept : Type 0 where
  pub failed : Bool
  pub peers : List ℕ
  pub mark : Mark
  pub lent : List ℕ
  pub rest : List ℕ
  pub room : List ℕ
  pub place : ℕ
