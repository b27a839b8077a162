-- How items stand in bytes, of which the first `room` are to be filled by items.
use Rattle.std.specs.Prelude.{ℕ, ◌+◌, ◌<◌, ◌≤◌, ◌⊎◌, List, length, drop}
use Rattle.nsh_metadata.specs.Item.{HoldsItems, item_size}
use Rattle.nsh_metadata.specs.declared.surveys.Survey.{Survey}
use Rattle.nsh_metadata.specs.declared.surveys.Survey.TheVariants.{Whole, Cut, Past}

-- some items, then a place inside the room where the next has to begin
pub record StandsAt (b : List ℕ) (room place : ℕ) : Type 0 where
  pub count : ℕ
  pub items : HoldsItems count place b
  pub within : place ≤ length b
  pub inside : place < room

-- there the item's first 4 bytes, or all of it, are not yet given
pub record IsCutAt (b : List ℕ) (room place : ℕ) : Type 0 where
  pub stands : StandsAt b room place
  pub short : (length (drop place b) < 4) ⊎ ((place + item_size (drop place b) ≤ room) × (length (drop place b) < item_size (drop place b)))

-- there an item begins that passes the room
pub record IsPastAt (b : List ℕ) (room place : ℕ) : Type 0 where
  pub stands : StandsAt b room place
  pub shown : 4 ≤ length (drop place b)
  pub past : room < place + item_size (drop place b)

abbrev pub Surveys : List ℕ → ℕ → Survey → Type 0
Surveys b room (Whole n) = (room ≤ length b) × HoldsItems n room b
Surveys b room Cut = (place : ℕ) × IsCutAt b room place
Surveys b room (Past place) = IsPastAt b room place
