-- What clauses see of a window's publisher, of what it tells, and of a seat.
use Rattle.std.specs.Prelude.{◌≡◌, ℕ, Bool}
use Rattle.logbook.specs.Pages.{Book}
use Rattle.path_selection.specs.declared.lookups.Found.{Found}
use Rattle.path_selection.specs.Answers.{IsAnswer}
use Rattle.table_publish.specs.Publications.{Publications, Extends, table_of, version_of}

-- which window it is of, what was published, and whether it has failed, for good
pub record PublisherView : Type 0 where
  pub window : Book
  pub published : Publications
  pub failed : Bool

-- which window it is of, and what was published when it was made
pub record ToldView : Type 0 where
  pub window : Book
  pub published : Publications

-- which window it is of, what it has seen, the newest of what it saw or learned of, and how many lookups were refused
pub record SeatView : Type 0 where
  pub window : Book
  pub seen : Publications
  pub newest : Publications
  pub refused : ℕ

-- a seat of a window that has just begun
abbrev pub fresh_seat : Book → Publications → SeatView
fresh_seat window published = record { window = window; seen = published; newest = published; refused = 0 }

-- A lookup was answered, by one table: that after all lists which the seat has seen then. They begin with those that it had seen,
-- and with those that it had learned of; the version named counts just them.
pub record HasLooked (before after : SeatView) (spi si : ℕ) (found : Found) : Type 0 where
  pub window : after.window ≡ before.window
  pub own : Extends after.seen before.seen
  pub learned : Extends after.seen before.newest
  pub newest : after.newest ≡ after.seen
  pub version : found.version ≡ version_of after.seen
  pub answer : IsAnswer (table_of after.seen) spi si found.answer
  pub refused : after.refused ≡ before.refused
