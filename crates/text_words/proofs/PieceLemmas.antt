-- A text cut at the first place of a mark.
use Rattle.std.proofs.Common.{◌≡◌, ℕ, ◌+◌, ◌-◌, ◌<◌, ◌≤◌, Bool, false, List, [], ◌∷◌, length, take, drop, sym, ◌∙◌, ap, subst, arith, Option, Some, None, Bor, IsTrue, ◌↔◌}
use Rattle.std.specs.Prelude.{◌==◌, position, is_some}
use mathlib.Core.Bool.{not}
use Rattle.std.specs.List.{slice_split, position_or_len, All}
use Rattle.std.proofs.lemmas.List.{take_rest}
use Rattle.std.proofs.lemmas.List.Splits.{slice_split_first, slice_split_none, length-slice_split}
use Rattle.std.proofs.lemmas.List.Sums.{fails_before_first}
use Rattle.text_words.specs.Pieces.{pieces_of, pieces_left}

-- what a first place says
pub first_place : {X : Type 0} (p : X → Bool) (xs : List X) (end : ℕ) → position p xs ≡ Some end
    → (position_or_len p xs ≡ end) × (end < length xs)
first_place p xs end h = grind arith

-- what it says that there is none
no_place : {X : Type 0} (p : X → Bool) (xs : List X) → position p xs ≡ None → length xs ≤ position_or_len p xs
no_place p xs h = grind arith

-- where there is no first place, no element passes
pub nowhere : {X : Type 0} (p : X → Bool) (xs : List X) → position p xs ≡ None → All (λ x. p x ≡ false) xs
nowhere p xs h k d lt =
    let len = no_place p xs h in
    fails_before_first p xs k d (omega (arith, lt, len))

-- the text before the mark is the first piece, and the text behind it has the others
pub pieces-at : (mark : ℕ) (text : List ℕ) (end : ℕ) → position (λ b. b == mark) text ≡ Some end
    → pieces_of mark text ≡ take end text ∷ pieces_of mark (take (length text - (end + 1)) (drop (end + 1) text))
unfolding pieces_of
pieces-at mark text end h =
    let p : ℕ → Bool = λ b. b == mark in
    let place = first_place p text end h in
    let within : position_or_len p text < length text = subst (λ n. n < length text) (sym place.0) place.1 in
    let Cut : ℕ → Type 0 = λ n. slice_split p text ≡ take n text ∷ slice_split p (drop (n + 1) text) in
    let cut : Cut end = subst Cut place.0 (slice_split_first p text 0 within) in
    cut ∙ ap (λ rest. take end text ∷ slice_split p rest) (sym (take_rest text (end + 1)))

-- a text without the mark is one piece
pub pieces-whole : (mark : ℕ) (text : List ℕ) → position (λ b. b == mark) text ≡ None → pieces_of mark text ≡ text ∷ []
unfolding pieces_of
pieces-whole mark text h = slice_split_none (λ b. b == mark) text (nowhere (λ b. b == mark) text h)

-- a text has at least one piece
pub pieces-some : (mark : ℕ) (text : List ℕ) → pieces_of mark text ≡ [] → ⊥
unfolding pieces_of
pieces-some mark text h =
    let none = ap length h in
    omega (arith, none, length-slice_split (λ b. b == mark) text)

-- whether no piece is left shows in what is kept
pub done_or_not : (mark : ℕ) (rest : Option (Bor (List ℕ))) (pieces : List (List ℕ)) (b : Bool)
    → pieces_left mark rest ≡ pieces → is_some rest ≡ not b → IsTrue b ↔ (pieces ≡ [])
done_or_not mark None pieces b view some = (λ _. sym view, λ _. grind arith)
done_or_not mark (Some rest) pieces b view some =
    (λ yes. let no : is_some (Some rest) ≡ not b = some in absurd cc, λ none. absurd (pieces-some mark rest.now (view ∙ none)))
