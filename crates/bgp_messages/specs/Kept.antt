-- What a contract sees of a feed.
use Rattle.std.specs.Prelude.{ℕ, List, Option}
use Rattle.bgp_messages.specs.Refusals.{Told}

-- why a feed has stopped: a refusal, its place counted from the feed's first byte, or want of memory
pub data Stop : Type 0 where
  refused : Told → Stop
  failed : Stop

-- the bytes that are not used up, how many were used, and why the feed has stopped, where it has
pub record Kept : Type 0 where
  pub rest : List ℕ
  pub place : ℕ
  pub stop : Option Stop
