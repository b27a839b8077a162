-- What clauses see of a frame.
use Rattle.std.specs.Prelude.{ℕ, ◌+◌, ◌≤◌, List, length}

-- its room, its captured bytes, and its length on the wire
pub record Captured : Type 0 where
  pub room : ℕ
  pub bytes : List ℕ
  pub original : ℕ

-- the captured bytes fit the room and the limit, and are no more than were on the wire
pub record IsFrame (frame : Captured) : Type 0 where
  pub fits : length frame.bytes ≤ frame.room
  pub limited : length frame.bytes ≤ 262144
  pub captured : length frame.bytes ≤ frame.original
  pub short : frame.original ≤ length frame.bytes + 2147483647
