-- The bytes of words, and words that are joined by a mark which none of them has.
use Rattle.std.proofs.Common.{◌≡◌, ℕ, ◌<◌, ◌≤◌, ◌^◌, Bool, true, false, List, [], ◌∷◌, ◌++◌, sym, ap, ◌∙◌, arith}
use Rattle.std.specs.Prelude.{◌==◌, ◌&&◌, nat_le, map}
use Rattle.std.specs.List.{All, AllByRecursion, join_with_byte}
use Rattle.std.specs.Fmt.{decimal}
use Rattle.std.specs.Char.{is_ascii_digit}
use Rattle.std.specs.Str.{all_ascii_digits}
use Rattle.std.proofs.lemmas.Bool.{and_parts}
use Rattle.std.proofs.lemmas.Bool.Decides.{nat_tests}
use Rattle.std.proofs.lemmas.Fmt.{digits_decimal}
use Rattle.std.proofs.lemmas.List.Elements.{All-from_recursion, All-append, All-cons, All-weaker}
use Rattle.std.proofs.lemmas.List.Splits.{slice_split_at, slice_split_none, join_with_byte-slice_split}
use Rattle.std.proofs.lemmas.Str.Parse.{numerals_by_value, tells_all_ascii_digits}
use Rattle.text_words.specs.Names.{IsName, is_name_byte}
use Rattle.text_words.specs.Pieces.{pieces_of}

-- no byte of the word is the mark
abbrev pub Lacks : ℕ → List ℕ → Type 0
Lacks mark w = All (λ b. (b == mark) ≡ false) w

abbrev pub AllLack : ℕ → List (List ℕ) → Type 0
AllLack mark ws = AllByRecursion (Lacks mark) ws

-- bytes of a word: no space, and no byte that ends a line
abbrev pub IsWord : List ℕ → Type 0
IsWord w = All (λ b. 33 ≤ b) w

abbrev pub AreWords : List (List ℕ) → Type 0
AreWords ws = AllByRecursion IsWord ws

abbrev are_word_bytes : List ℕ → Bool
are_word_bytes [] = true
are_word_bytes (b ∷ bs) = nat_le 33 b && are_word_bytes bs

byte_of : (b : ℕ) → nat_le 33 b ≡ true → 33 ≤ b
byte_of b h = grind (arith, nat_tests)

literal_rec : (w : List ℕ) → are_word_bytes w ≡ true → AllByRecursion (λ b. 33 ≤ b) w
literal_rec [] h = tt
literal_rec (b ∷ bs) h = let parts = and_parts (nat_le 33 b) (are_word_bytes bs) h in (byte_of b parts.0, literal_rec bs parts.1)

-- a word that is written out
pub literal : (w : List ℕ) → are_word_bytes w ≡ true → IsWord w
literal w h = All-from_recursion (λ b. 33 ≤ b) w (literal_rec w h)

low : (c : ℕ) → is_ascii_digit c ≡ true → 48 ≤ c
low c h = grind (arith, nat_tests)

high : (c : ℕ) → is_ascii_digit c ≡ true → c ≤ 57
high c h = grind (arith, nat_tests)

digits_all : (P : ℕ → Type 0) → ((c : ℕ) → 48 ≤ c → c ≤ 57 → P c) → (ds : List ℕ) → all_ascii_digits ds ≡ true → AllByRecursion P ds
digits_all P each [] h = tt
digits_all P each (c ∷ cs) h =
    let parts = and_parts (is_ascii_digit c) (all_ascii_digits cs) h in
    (each c (low c parts.0) (high c parts.0), digits_all P each cs parts.1)

-- the bytes of a decimal number
pub decimal_all : (P : ℕ → Type 0) → ((c : ℕ) → 48 ≤ c → c ≤ 57 → P c) → (n : ℕ) → n < 2 ^ 64 → All P (decimal n)
decimal_all P each n h =
    All-from_recursion P (decimal n) (digits_all P each (decimal n) (digits_decimal (numerals_by_value _ tells_all_ascii_digits) n h))

pub number_word : (n : ℕ) → n < 2 ^ 64 → IsWord (decimal n)
number_word n h = decimal_all (λ b. 33 ≤ b) (λ c least most. omega (arith, least)) n h

name_byte : (c : ℕ) → is_name_byte c ≡ true → 33 ≤ c
name_byte c h = grind (arith, nat_tests)

pub name_word : (n : List ℕ) → IsName n → IsWord n
name_word n h = λ k d at. name_byte _ (h.characters k d at)

-- a name has none of the marks that no byte of a name is
pub name_lacks : (mark : ℕ) (n : List ℕ) → ((c : ℕ) → is_name_byte c ≡ true → (c == mark) ≡ false) → IsName n → Lacks mark n
name_lacks mark n each h = λ k d at. each _ (h.characters k d at)

byte_differs : (mark b : ℕ) → mark < 33 → 33 ≤ b → (b == mark) ≡ false
byte_differs mark b less least = grind (arith, nat_tests)

-- a word has no mark below its bytes
pub word_lacks : (mark : ℕ) → mark < 33 → (w : List ℕ) → IsWord w → Lacks mark w
word_lacks mark less w h = All-weaker (λ b. 33 ≤ b) (λ b. (b == mark) ≡ false) (λ b least. byte_differs mark b less least) w h

pub words_lack : (mark : ℕ) → mark < 33 → (ws : List (List ℕ)) → AreWords ws → AllLack mark ws
words_lack mark less [] h = tt
words_lack mark less (w ∷ ws) h = (word_lacks mark less w h.0, words_lack mark less ws h.1)

pub is_itself : (n : ℕ) → (n == n) ≡ true
is_itself n = grind (arith, nat_tests)

-- joined words are cut into these words
pub cut_joined : (mark : ℕ) (w : List ℕ) (ws : List (List ℕ)) → Lacks mark w → AllLack mark ws → pieces_of mark (join_with_byte mark (w ∷ ws)) ≡ w ∷ ws
unfolding pieces_of
cut_joined mark w [] h hs = slice_split_none (λ b. b == mark) w h
cut_joined mark w (v ∷ ws) h hs =
    slice_split_at (λ b. b == mark) w mark (join_with_byte mark (v ∷ ws)) h (is_itself mark) ∙ ap (λ r. w ∷ r) (cut_joined mark v ws hs.0 hs.1)

-- a word without the mark is one piece
pub cut_none : (mark : ℕ) (w : List ℕ) → Lacks mark w → pieces_of mark w ≡ w ∷ []
unfolding pieces_of
cut_none mark w h = slice_split_none (λ b. b == mark) w h

pub cut_first : (mark : ℕ) (w rest : List ℕ) → Lacks mark w → pieces_of mark (w ++ mark ∷ rest) ≡ w ∷ pieces_of mark rest
unfolding pieces_of
cut_first mark w rest h = slice_split_at (λ b. b == mark) w mark rest h (is_itself mark)

-- a text is its pieces, joined
pub joined_pieces : (mark : ℕ) (text : List ℕ) (ws : List (List ℕ)) → pieces_of mark text ≡ ws → text ≡ join_with_byte mark ws
unfolding pieces_of
joined_pieces mark text ws h = sym (join_with_byte-slice_split mark text) ∙ ap (join_with_byte mark) h

-- words that are joined by a mark that they may have
pub joined_all : (P : ℕ → Type 0) (mark : ℕ) → P mark → (ws : List (List ℕ)) → AllByRecursion (All P) ws → All P (join_with_byte mark ws)
joined_all P mark pm [] h = All-from_recursion P [] tt
joined_all P mark pm (w ∷ []) h = h.0
joined_all P mark pm (w ∷ v ∷ ws) h =
    All-append P w (mark ∷ join_with_byte mark (v ∷ ws)) h.0 (All-cons P mark (join_with_byte mark (v ∷ ws)) pm (joined_all P mark pm (v ∷ ws) h.1))

-- what holds of the words of some values
pub mapped : {X : Type 0} (P : X → Type 0) (Q : List ℕ → Type 0) (f : X → List ℕ) → ((x : X) → P x → Q (f x)) → (xs : List X) → AllByRecursion P xs
    → AllByRecursion Q (map f xs)
mapped P Q f each [] h = tt
mapped P Q f each (x ∷ xs) h = (each x h.0, mapped P Q f each xs h.1)
