use Rattle.std.proofs.Common.{ℕ, ◌≤◌, ◌-◌, List, length}
use Rattle.nsh_metadata.specs.Item.{HoldsItems}
use Rattle.nsh_metadata.proofs.surveys.walk_items.Given as goal

-- whole items up to the place, in the bytes and in the room
pub record Walked (b : List ℕ) (room place count : ℕ) : Type 0 where
  pub items : HoldsItems count place b
  pub within : place ≤ length b
  pub inside : place ≤ room
  pub few : count ≤ place

abbrev pub invariant-loop-at : goal.invariant-loop-at
invariant-loop-at l = Walked l.bytes l.room l.at l.count

abbrev pub decreases-loop-at : goal.decreases-loop-at
decreases-loop-at l = l.room - l.at
