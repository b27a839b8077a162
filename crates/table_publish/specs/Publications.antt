-- What is published in a window.
use Rattle.std.specs.Prelude.{◌≡◌, ℕ, ◌+◌, List, [], ◌∷◌, ◌++◌, length, fold}
use Rattle.path_selection.specs.declared.changes.Change.{Change}
use Rattle.path_selection.specs.Changes.{changed}
use Rattle.path_selection.specs.Paths.{ServicePath}
use Rattle.path_selection.specs.Published.{Published, Rises, StartsWith}
use Rattle.path_selection.specs.Scripted.{numbered, numbered-rises}

-- the opening table and its version, and the lists of changes that were published since, the first first
pub record Publications : Type 0 where
  pub opening : List ServicePath
  pub first : ℕ
  pub lists : List (List Change)

-- the table after the changes of one list, in order
abbrev pub changed_by : List ServicePath → List Change → List ServicePath
changed_by table changes = fold changed table changes

-- the table after these lists
abbrev pub after : List ServicePath → List (List Change) → List ServicePath
after table lists = fold changed_by table lists

-- the table after all lists
abbrev pub table_of : Publications → List ServicePath
table_of p = after p.opening p.lists

-- its version: each list makes one more
abbrev pub version_of : Publications → ℕ
version_of p = p.first + length p.lists

-- no list yet
abbrev pub opened_on : List ServicePath → ℕ → Publications
opened_on table version = record { opening = table; first = version; lists = [] }

-- one list more
abbrev pub longer : Publications → List Change → Publications
longer p changes = record { opening = p.opening; first = p.first; lists = p.lists ++ changes ∷ [] }

-- the same opening, and lists that begin with the other's
pub record Extends (all front : Publications) : Type 0 where
  pub opening : all.opening ≡ front.opening
  pub first : all.first ≡ front.first
  pub lists : StartsWith all.lists front.lists

-- the tables after none of the lists, after the first one, and so on up to all
abbrev pub tables_of : List ServicePath → List (List Change) → List (List ServicePath)
tables_of table [] = table ∷ []
tables_of table (changes ∷ lists) = table ∷ tables_of (changed_by table changes) lists

-- these tables with their versions
abbrev pub known_of : Publications → List Published
known_of p = numbered p.first (tables_of p.opening p.lists)

pub known_of-rises : (p : Publications) → Rises (known_of p)
known_of-rises p = numbered-rises p.first (tables_of p.opening p.lists)
