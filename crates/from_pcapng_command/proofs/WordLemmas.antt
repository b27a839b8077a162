-- Four words are the words at the four places.
use Rattle.std.proofs.Common.{◌≡◌, ℕ, List, [], ◌∷◌, length, slice_index_or, refl, arith}

four_words : (words : List (List ℕ)) → length words ≡ 4 → words ≡ slice_index_or words 0 [] ∷ slice_index_or words 1 [] ∷ slice_index_or words 2 [] ∷ slice_index_or words 3 [] ∷ []
four_words [] e = absurd (omega arith)
four_words (a ∷ []) e = absurd (omega arith)
four_words (a ∷ b ∷ []) e = absurd (omega arith)
four_words (a ∷ b ∷ c ∷ []) e = absurd (omega arith)
four_words (a ∷ b ∷ c ∷ d ∷ []) e = refl
four_words (a ∷ b ∷ c ∷ d ∷ w ∷ ws) e = absurd (omega arith)

-- four words, each of which is known
pub four_spelled_so : (words : List (List ℕ)) (a b c d : List ℕ) → length words ≡ 4 → slice_index_or words 0 [] ≡ a → slice_index_or words 1 [] ≡ b → slice_index_or words 2 [] ≡ c → slice_index_or words 3 [] ≡ d → words ≡ a ∷ b ∷ c ∷ d ∷ []
four_spelled_so words a b c d len is_a is_b is_c is_d = let all = four_words words len in cc
