-- The first line of a text.
use Rattle.std.proofs.Common.{◌≡◌, ◌≢◌, ℕ, ◌+◌, ◌-◌, ◌<◌, Bool, false, List, [], ◌∷◌, ◌++◌, length, take, drop, get_or, refl, sym, ◌∙◌, ap, subst, arith, Some, None, append_assoc, drop-cons, add-one, get_or-take, length-take-le}
use Rattle.std.specs.Prelude.{◌==◌, position}
use Rattle.std.specs.List.{position_or_len}
use Rattle.std.proofs.lemmas.List.{take_rest, take-append-drop}
use Rattle.std.proofs.lemmas.List.Elements.{recursion_from_All}
use Rattle.std.proofs.lemmas.List.Sums.{fails_before_first, passes_at_first}
use Rattle.std.proofs.lemmas.Bool.{eq-eqb}
use Rattle.text_words.proofs.PieceLemmas.{first_place, nowhere}
use Rattle.text_words.proofs.LineLemmas.{same_byte}
use Rattle.route_texts.specs.RouteTexts.{IsUnbroken, ended}

not_ten : (b : ℕ) → (b == 10) ≡ false → b ≢ 10
not_ten b other e = let same = eq-eqb b 10 e in absurd cc

pub split_at_end : (text : List ℕ) (end : ℕ) → position (λ b. b == 10) text ≡ Some end
    → IsUnbroken (take end text) × (text ≡ ended (take end text) ++ take (length text - (end + 1)) (drop (end + 1) text))
split_at_end text end h =
    let p : ℕ → Bool = λ b. b == 10 in
    let place = first_place p text end h in
    let within : position_or_len p text < length text = subst (λ n. n < length text) (sym place.0) place.1 in
    let Ten : ℕ → Type 0 = λ n. get_or text n 0 ≡ 10 in
    let ten : Ten end = subst Ten place.0 (same_byte _ _ (passes_at_first p text 0 within)) in
    let behind : drop end text ≡ 10 ∷ drop (end + 1) text = rw (drop-cons text end 0 place.1, ten, add-one end) refl in
    let shape : text ≡ take end text ++ 10 ∷ drop (end + 1) text = sym (take-append-drop end text) ∙ ap (λ r. take end text ++ r) behind in
    let short = length-take-le end text (omega (arith, place.1)) in
    let front : IsUnbroken (take end text) = recursion_from_All (λ b. b ≢ 10) (take end text) (λ k d lt.
    let before : k < end = omega (arith, lt, short) in
    let fails = fails_before_first p text k d (subst (λ n. k < n) (sym place.0) before) in
    not_ten _ (rw (get_or-take end text k d before) fails)) in
    (front, shape ∙ ap (λ r. take end text ++ 10 ∷ r) (sym (take_rest text (end + 1))) ∙ sym (append_assoc (take end text) (10 ∷ []) (take (length text - (end + 1)) (drop (end + 1) text))))

pub no_end : (text : List ℕ) → position (λ b. b == 10) text ≡ None → IsUnbroken text
no_end text h = recursion_from_All (λ b. b ≢ 10) text (λ k d lt. not_ten _ (nowhere (λ b. b == 10) text h k d lt))
