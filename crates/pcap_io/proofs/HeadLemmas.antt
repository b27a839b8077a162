-- A head is its numbers' cells, one after the other.
use Rattle.std.proofs.Common.{◌≡◌, ℕ, List, [], ◌∷◌, ◌++◌, length, true, false, refl, ap, ◌∙◌, slice_index_or}
use Rattle.pcap_io.specs.declared.forms.Form.{Form}
use Rattle.pcap_io.specs.Heads.{file_head, half, magic_of, packet_head_of, word}

-- the first two and the first four cells of a list
abbrev pub cells_2 : List ℕ → List ℕ
cells_2 xs = slice_index_or xs 0 0 ∷ slice_index_or xs 1 0 ∷ []

abbrev pub cells_4 : List ℕ → List ℕ
cells_4 xs = slice_index_or xs 0 0 ∷ slice_index_or xs 1 0 ∷ slice_index_or xs 2 0 ∷ slice_index_or xs 3 0 ∷ []

-- a number of 4 bytes has these four cells
pub cells_4-word : (form : Form) (n : ℕ) → cells_4 (word form n) ≡ word form n
unfolding word
cells_4-word form n =
    elim form.big as (λ b. cells_4 (word (record form { big = b }) n) ≡ word (record form { big = b }) n) [ true ↦ refl | false ↦ refl ]

pub cells_2-half : (form : Form) (n : ℕ) → cells_2 (half form n) ≡ half form n
unfolding half
cells_2-half form n =
    elim form.big as (λ b. cells_2 (half (record form { big = b }) n) ≡ half (record form { big = b }) n) [ true ↦ refl | false ↦ refl ]

-- a number has 4 or 2 bytes
pub length-word : (form : Form) (n : ℕ) → length (word form n) ≡ 4
unfolding word
length-word form n =
    elim form.big as (λ b. length (word (record form { big = b }) n) ≡ 4) [ true ↦ refl | false ↦ refl ]

-- equal pieces join to equal lists
pub joined : {a b c d : List ℕ} → a ≡ b → c ≡ d → a ++ c ≡ b ++ d
joined {a = a} {b = b} {c = c} {d = d} first second = ap (λ l. l ++ c) first ∙ ap (λ l. b ++ l) second

-- the cells of a packet's four numbers are the four numbers
pub four_words : (form : Form) (a b c d : ℕ) → cells_4 (word form a) ++ cells_4 (word form b) ++ cells_4 (word form c) ++ cells_4 (word form d) ≡ packet_head_of form a b c d
four_words form a b c d =
    joined (joined (joined (cells_4-word form a) (cells_4-word form b)) (cells_4-word form c)) (cells_4-word form d)

-- the cells of a file head's numbers, with its magic m, are those numbers
pub head_words : (form : Form) (m : ℕ) → m ≡ magic_of form → cells_4 (word form m) ++ (cells_2 (half form 2) ++ cells_2 (half form 4)) ++ cells_4 (word form 0) ++ cells_4 (word form 0) ++ cells_4 (word form 262144) ++ cells_4 (word form 1) ≡ file_head form
head_words form m is_magic =
    joined
    (joined
    (joined
    (joined
    (joined (cells_4-word form m ∙ ap (word form) is_magic) (joined (cells_2-half form 2) (cells_2-half form 4)))
    (cells_4-word form 0))
    (cells_4-word form 0))
    (cells_4-word form 262144))
    (cells_4-word form 1)
