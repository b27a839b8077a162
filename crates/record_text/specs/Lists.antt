-- Lists inside a word.
use Rattle.std.specs.Prelude.{ℕ, List, [], ◌∷◌, codes}
use Rattle.std.specs.List.{join_with_byte}

-- the words with commas between them, and a dash for none
abbrev pub list_text : List (List ℕ) → List ℕ
list_text [] = codes "-"
list_text (w ∷ ws) = join_with_byte 44 (w ∷ ws)
