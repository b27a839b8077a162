-- What a look finds.
use Rattle.std.specs.Prelude.{◌≡◌, ℕ}
use Rattle.path_selection.specs.Answers.{IsAnswer}
use Rattle.path_selection.specs.Published.{StartsWith}
use Rattle.table_publish.specs.declared.rules.View.{View}
use Rattle.table_publish.specs.declared.tolds.Sight.{Sight}
use Rattle.table_publish.specs.Entries.{published_of}
use Rattle.table_publish.specs.Publications.{table_of}
use Rattle.table_publish.specs.Rules.{Tells}

-- the view v becomes w, which has seen the list of the table that answers
pub record IsSight (v w : View) (spi si : ℕ) (t : Sight) : Type 0 where
  pub told : Tells w t.seen t.version
  pub same : v.window ≡ t.seen.book
  pub begins : StartsWith t.seen.log v.list
  pub answer : IsAnswer (table_of (published_of t.seen.log)) spi si t.answer
