-- Words are text, and every word of a list of texts is one.
use Rattle.std.proofs.Common.{◌≡◌, ◌≢◌, ℕ, ◌==◌, length, slice_index_or, arith, Bool, true, false, not, bytes_eq, List, [], ◌∷◌, ◌++◌, Result, Ok, Err, IsOk, MatchResult, IsUtf8, refl}
use Rattle.std.specs.List.{All}
use Rattle.std.proofs.lemmas.Slice.Eq.{bytes_eq-Decides}
use Rattle.std.proofs.lemmas.List.Elements.{All-append, All-cons, All-nil}

-- a text is read as one
pub ok_of_text : {A B : Type 0} (text : List ℕ) (P : A → Type 0) (Q : B → Type 0) (r : Result A B) → MatchResult r P (λ e. ¬ (IsUtf8 text) × Q e) → IsUtf8 text → IsOk r
ok_of_text text P Q (Ok x) m is = refl
ok_of_text text P Q (Err e) m is = absurd (m.0 is)

-- one more text
pub texts_and_one : (words : List (List ℕ)) (word : List ℕ) → All IsUtf8 words → IsUtf8 word → All IsUtf8 (words ++ word ∷ [])
texts_and_one words word all one = All-append IsUtf8 words (word ∷ []) all (All-cons IsUtf8 word [] one (All-nil IsUtf8))

-- five words are the words at the five places
pub five_words : (words : List (List ℕ)) → length words ≡ 5 → words ≡ slice_index_or words 0 [] ∷ slice_index_or words 1 [] ∷ slice_index_or words 2 [] ∷ slice_index_or words 3 [] ∷ slice_index_or words 4 [] ∷ []
five_words [] e = absurd (omega arith)
five_words (a ∷ []) e = absurd (omega arith)
five_words (a ∷ b ∷ []) e = absurd (omega arith)
five_words (a ∷ b ∷ c ∷ []) e = absurd (omega arith)
five_words (a ∷ b ∷ c ∷ d ∷ []) e = absurd (omega arith)
five_words (a ∷ b ∷ c ∷ d ∷ w ∷ []) e = refl
five_words (a ∷ b ∷ c ∷ d ∷ w ∷ x ∷ xs) e = absurd (omega arith)

-- five words, each of which is known
pub spelled_so : (words : List (List ℕ)) (a b c d e : List ℕ) → length words ≡ 5 → slice_index_or words 0 [] ≡ a → slice_index_or words 1 [] ≡ b → slice_index_or words 2 [] ≡ c → slice_index_or words 3 [] ≡ d → slice_index_or words 4 [] ≡ e → words ≡ a ∷ b ∷ c ∷ d ∷ e ∷ []
spelled_so words a b c d e len is_a is_b is_c is_d is_e = let all = five_words words len in cc

-- three words are the words at the three places
three_words : (words : List (List ℕ)) → length words ≡ 3 → words ≡ slice_index_or words 0 [] ∷ slice_index_or words 1 [] ∷ slice_index_or words 2 [] ∷ []
three_words [] e = absurd (omega arith)
three_words (a ∷ []) e = absurd (omega arith)
three_words (a ∷ b ∷ []) e = absurd (omega arith)
three_words (a ∷ b ∷ c ∷ []) e = refl
three_words (a ∷ b ∷ c ∷ d ∷ xs) e = absurd (omega arith)

-- three words, each of which is known
pub three_spelled_so : (words : List (List ℕ)) (a b c : List ℕ) → length words ≡ 3 → slice_index_or words 0 [] ≡ a → slice_index_or words 1 [] ≡ b → slice_index_or words 2 [] ≡ c → words ≡ a ∷ b ∷ c ∷ []
three_spelled_so words a b c len is_a is_b is_c = let all = three_words words len in cc

-- a test that did not fail
pub passed_test : (b : Bool) → false ≡ not b → b ≡ true
passed_test true e = refl
passed_test false e = cc

-- words that a test finds equal, and that one finds different
pub same_word : (a b : List ℕ) → bytes_eq a b ≡ true → a ≡ b
same_word a b e = (bytes_eq-Decides a b).0 e

pub other_word : (a b : List ℕ) → false ≡ bytes_eq a b → a ≢ b
other_word a b e same = let yes : bytes_eq a b ≡ true = (bytes_eq-Decides a b).1 same in cc

-- a word that has a byte
pub some_word : (a : List ℕ) → false ≡ (length a == 0) → a ≢ []
some_word [] e same = cc
some_word (x ∷ xs) e same = cc
