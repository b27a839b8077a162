-- The rule of a window.
use Rattle.std.specs.Prelude.{◌≡◌, ℕ, true, false, List, []}
use mathlib.Core.Option.{some}
use lib.ListN.{get_elem?}
use Rattle.logbook.specs.declared.tokens.Seen.{Seen}
use Rattle.path_selection.specs.Published.{StartsWith}
use Rattle.table_publish.specs.declared.books.Law.{Law}
use Rattle.table_publish.specs.declared.entries.Entry.{Entry}
use Rattle.table_publish.specs.declared.stores.Store.{Store}
use Rattle.table_publish.specs.declared.stores.Operation.{Operation}
use Rattle.table_publish.specs.declared.rules.View.{View}
use Rattle.table_publish.specs.Windows.{no_book}
use Rattle.table_publish.specs.Entries.{begun, published_of, LacksMark}
use Rattle.table_publish.specs.Publications.{Extends, table_of, version_of}
use Rattle.table_publish.specs.Views.{ToldView}

-- nothing is known yet
abbrev pub newcomer : View
newcomer = record { opened = false; window = no_book; list = [] }

-- what is known once a list was seen
abbrev pub view_at : Seen Entry ℕ Law → View
view_at seen = record { opened = true; window = seen.book; list = seen.log }

-- the published value is the table that its list makes, and this table's version
pub record Stands (x : Store) : Type 0 where
  pub table : x.table ≡ table_of (published_of x.seen.log)
  pub version : x.version ≡ version_of (published_of x.seen.log)
  pub begins : begun x.seen.log ≡ true
  pub lacks : LacksMark x.seen.log

-- once a thread has seen a list, it is of the published value's window, and a beginning of its list
abbrev pub Fits : Store → View → Type 0
Fits x v = v.opened ≡ true → (v.window ≡ x.seen.book) × StartsWith x.seen.log v.list

pub record IsHeld (x : Store) (views : List View) : Type 0 where
  pub stands : Stands x
  pub each : (seat : ℕ) (v : View) → get_elem? views seat ≡ some v → Fits x v

-- the whole list is seen, which begins with what had been seen
pub record Sees (v : View) (x y : Store) (w : View) : Type 0 where
  pub now : w ≡ view_at y.seen
  pub fits : Fits y v
  pub stands : Stands y

-- the publisher has seen this list, which is the published value's, and nothing is pending
pub record Holds (v : View) (x : Store) (pending : List Operation) (seen : Seen Entry ℕ Law) : Type 0 where
  pub now : v ≡ view_at x.seen
  pub stands : Stands x
  pub none : pending ≡ []
  pub list : x.seen ≡ seen

-- a reader has seen this list, which makes this version
pub record Tells (v : View) (seen : Seen Entry ℕ Law) (named : ℕ) : Type 0 where
  pub now : v ≡ view_at seen
  pub begins : begun seen.log ≡ true
  pub version : named ≡ version_of (published_of seen.log)
  pub lacks : LacksMark seen.log

-- what a seat saw itself is of the window that it was told of, and what it was told of begins with it
pub record Sits (told : ToldView) (seen : Seen Entry ℕ Law) : Type 0 where
  pub window : seen.book ≡ told.window
  pub begins : begun seen.log ≡ true
  pub lacks : LacksMark seen.log
  pub behind : Extends told.published (published_of seen.log)
