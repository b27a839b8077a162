-- What a window that is closed shows of its seats.
use Rattle.std.specs.Prelude.{◌≡◌, List, [], ◌∷◌, ◌++◌}
use Rattle.table_publish.specs.declared.entries.Entry.{Entry}
use Rattle.table_publish.specs.declared.entries.Entry.TheVariants.{Mark}
use Rattle.table_publish.specs.Entries.{published_of}
use Rattle.table_publish.specs.Publications.{Extends}
use Rattle.table_publish.specs.Views.{SeatView}

-- the list that the mark ends begins with what the seat has seen
abbrev pub HasSeen : List Entry → SeatView → Type 0
HasSeen sealed s = (list : List Entry) → sealed ≡ list ++ Mark ∷ [] → Extends (published_of list) s.seen
