-- A text cut at each of its marks: words at spaces, the parts of an address at points.
use Rattle.std.specs.Prelude.{ℕ, ◌==◌, List, [], Option, Some, None}
use Rattle.std.specs.List.{slice_split}
use Rattle.std.specs.Borrow.{Bor}

-- the pieces between the marks; two marks beside each other have an empty piece between them
unfoldable pub pieces_of : ℕ → List ℕ → List (List ℕ)
pieces_of mark text = slice_split (λ b. b == mark) text

-- the words of a line, which is cut at each of its spaces
abbrev pub words_of : List ℕ → List (List ℕ)
words_of line = pieces_of 32 line

-- the pieces of a text of which some may have been taken
abbrev pub pieces_left : ℕ → Option (Bor (List ℕ)) → List (List ℕ)
pieces_left mark None = []
pieces_left mark (Some rest) = pieces_of mark rest.now
