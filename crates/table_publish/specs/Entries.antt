-- The list of a window's entries, and what it says was published.
use Rattle.std.specs.Prelude.{◌≡◌, Bool, true, false, List, [], ◌∷◌, ◌++◌}
use Rattle.path_selection.specs.declared.changes.Change.{Change}
use Rattle.table_publish.specs.declared.entries.Entry.{Entry}
use Rattle.table_publish.specs.declared.entries.Entry.TheVariants.{Open, Changes, Mark}
use Rattle.table_publish.specs.Publications.{Publications, opened_on}

-- the lists of changes among the entries
abbrev pub lists_of : List Entry → List (List Change)
lists_of [] = []
lists_of (Changes cs ∷ es) = cs ∷ lists_of es
lists_of (Open o ∷ es) = lists_of es
lists_of (Mark ∷ es) = lists_of es

-- a window's list begins with its opening
abbrev pub begun : List Entry → Bool
begun (Open o ∷ es) = true
begun _ = false

-- the opening, and the lists of changes behind it
abbrev pub published_of : List Entry → Publications
published_of (Open o ∷ es) = record { opening = o.table; first = o.version; lists = lists_of es }
published_of _ = opened_on [] 0

-- no entry stands behind the mark
abbrev pub IsSealed : List Entry → Type 0
IsSealed es = (front back : List Entry) → es ≡ front ++ Mark ∷ back → back ≡ []

abbrev pub LacksMark : List Entry → Type 0
LacksMark es = (front back : List Entry) → es ≡ front ++ Mark ∷ back → ⊥
