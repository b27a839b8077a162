-- The rule of a window's book, and what its steps tell.
use Rattle.std.specs.Prelude.{ℕ, ◌≡◌, ◌==◌, ◌-◌, ◌<◌, true, List, [], ◌∷◌, ◌++◌, length, MatchBool}
use Rattle.logbook.specs.Pages.{Cell, Step, View, Book, Named}
use Rattle.table_publish.specs.declared.entries.Entry.{Entry}
use Rattle.table_publish.specs.Entries.{IsSealed}

-- the one word is the number of entries behind the opening, and no entry stands behind the mark
pub record IsKept (cells : List Cell) (log : List Entry) : Type 0 where
  pub words : cells ≡ (length log - 1, true) ∷ []
  pub some : 0 < length log
  pub sealed : IsSealed log

abbrev pub head_of : Book → Named
head_of b = record { tracked = true; key = 0; book = b }

-- the entry was added to all that had been seen, unless the list was longer
abbrev pub Added : Step Entry → View Entry ℕ → ℕ → View Entry ℕ → Type 0
Added s v found w = MatchBool (found == s.old) (w.0 ≡ v.0 ++ s.ask ∷ []) (Unit {0})
