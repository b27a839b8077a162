-- The 16-bit words of a list of bytes, the higher byte first, and a word written in place.
use Rattle.std.specs.Prelude.{ℕ, ◌+◌, ◌*◌, ◌/◌, ◌%◌, List, slice_index, slice_set}

-- the word whose higher byte stands at i; a byte past the end counts as 0
unfoldable pub word : List ℕ → ℕ → ℕ
word bytes i = 256 * slice_index bytes i + slice_index bytes (i + 1)

-- the bytes with this word at i
unfoldable pub with_word : List ℕ → ℕ → ℕ → List ℕ
with_word bytes i number = slice_set (slice_set bytes i (number / 256)) (i + 1) (number % 256)
