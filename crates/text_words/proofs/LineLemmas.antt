-- The first line of a text.
use Rattle.std.proofs.Common.{◌≡◌, ℕ, ◌+◌, ◌-◌, ◌<◌, Bool, true, false, List, [], ◌∷◌, ◌++◌, length, take, drop, get_or, refl, sym, ◌∙◌, ap, subst, arith, Some, None, drop-cons, add-one, get_or-take, length-take-le}
use Rattle.std.specs.Prelude.{◌==◌, position}
use Rattle.std.specs.List.{onto_first, position_or_len, AllByRecursion}
use Rattle.std.proofs.lemmas.List.{take_rest, take-append-drop}
use Rattle.std.proofs.lemmas.List.Elements.{recursion_from_All}
use Rattle.std.proofs.lemmas.List.Sums.{fails_before_first, passes_at_first}
use Rattle.std.proofs.lemmas.Bool.Decides.{nat_tests}
use Rattle.text_words.specs.Lines.{lines_of}
use Rattle.text_words.proofs.PieceLemmas.{first_place, nowhere}

-- two bytes that the test finds equal
pub same_byte : (m n : ℕ) → (m == n) ≡ true → m ≡ n
same_byte m n h = grind (arith, nat_tests)

-- no byte of these ends a line
abbrev IsUnbroken : List ℕ → Type 0
IsUnbroken bs = AllByRecursion (λ b. (b == 10) ≡ false) bs

-- what stands before the byte that ends a line is that line
lines-split : (front rest : List ℕ) → IsUnbroken front → lines_of (front ++ 10 ∷ rest) ≡ front ∷ lines_of rest
unfolding lines_of
lines-split [] rest h = refl
lines-split (b ∷ front) rest h = rw h.0 (ap (onto_first b) (lines-split front rest h.1))

-- bytes that end no line are one line
lines-last : (b : ℕ) (bs : List ℕ) → IsUnbroken (b ∷ bs) → lines_of (b ∷ bs) ≡ (b ∷ bs) ∷ []
unfolding lines_of
lines-last b [] h = rw h.0 refl
lines-last b (c ∷ cs) h = rw h.0 (ap (onto_first b) (lines-last c cs h.1))

-- the text at the first byte that ends a line
pub lines-at : (text : List ℕ) (end : ℕ) → position (λ b. b == 10) text ≡ Some end
    → lines_of text ≡ take end text ∷ lines_of (take (length text - (end + 1)) (drop (end + 1) text))
lines-at text end h =
    let p : ℕ → Bool = λ b. b == 10 in
    let place = first_place p text end h in
    let within : position_or_len p text < length text = subst (λ n. n < length text) (sym place.0) place.1 in
    let Ten : ℕ → Type 0 = λ n. get_or text n 0 ≡ 10 in
    let ten : Ten end = subst Ten place.0 (same_byte _ _ (passes_at_first p text 0 within)) in
    let behind : drop end text ≡ 10 ∷ drop (end + 1) text = rw (drop-cons text end 0 place.1, ten, add-one end) refl in
    let shape : text ≡ take end text ++ 10 ∷ drop (end + 1) text
    = sym (take-append-drop end text) ∙ ap (λ r. take end text ++ r) behind in
    let short = length-take-le end text (omega (arith, place.1)) in
    let front : IsUnbroken (take end text) = recursion_from_All _ (take end text) (λ k d lt.
    let before : k < end = omega (arith, lt, short) in
    let fails = fails_before_first p text k d (subst (λ n. k < n) (sym place.0) before) in
    rw (get_or-take end text k d before) fails) in
    ap lines_of shape ∙ lines-split (take end text) (drop (end + 1) text) front
    ∙ ap (λ r. take end text ∷ lines_of r) (sym (take_rest text (end + 1)))

-- a text without that byte
pub lines-whole : (text : List ℕ) → 0 < length text → position (λ b. b == 10) text ≡ None → lines_of text ≡ text ∷ []
lines-whole [] some h = absurd (omega (arith, some))
lines-whole (b ∷ bs) some h = lines-last b bs (recursion_from_All _ (b ∷ bs) (nowhere (λ b. b == 10) (b ∷ bs) h))

-- the empty text
pub lines-none : (text : List ℕ) → length text ≡ 0 → lines_of text ≡ []
unfolding lines_of
lines-none [] h = refl
lines-none (b ∷ bs) h = absurd (omega (arith, h))
