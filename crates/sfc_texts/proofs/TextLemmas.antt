-- What was appended in turn, as one text.
use Rattle.std.proofs.Common.{◌≡◌, ℕ, ◌+◌, ◌<◌, List, [], ◌∷◌, ◌++◌, take, get_or, append_assoc, append-nil, Some, Result, Ok, Err, IfOk, OnOk, codes, sym, ap, ◌∙◌}
use Rattle.text_words.specs.Hexadecimal.{four_digits}
use Rattle.sfc_texts.specs.NshText.{class_text}
use Rattle.std.specs.List.{flat_map, slice_get}
use Rattle.std.proofs.lemmas.List.{take_more}
use Rattle.std.proofs.lemmas.Option.{slice_get_within, get_or_from_slice_get}
use Rattle.std.proofs.lemmas.Grind.{flat_map-append}

-- what follows where a call answered Ok
pub on_ok_so : {A E : Type 0} (P Q : Type 0) (r : Result A E) → (P → Q) → OnOk r P → OnOk r Q
on_ok_so P Q (Ok x) f p = f p
on_ok_so P Q (Err e) f p = p

-- a label and the digits of a class behind it
pub class_appended : (out labelled all : List ℕ) (class : ℕ) → labelled ≡ out ++ codes "item class=" → all ≡ labelled ++ four_digits class → all ≡ out ++ class_text class
unfolding class_text
class_appended out labelled all class first last = last ∙ (ap (λ o. o ++ four_digits class) first ∙ append_assoc out (codes "item class=") (four_digits class))

-- what holds of a call's answer holds of what follows from it
pub if_ok_so : {A E : Type 0} (P Q : A → Type 0) (r : Result A E) → ((x : A) → P x → Q x) → IfOk r P → IfOk r Q
if_ok_so P Q (Ok x) f p = f x p
if_ok_so P Q (Err e) f p = p

-- the texts of one more item
pub one_more : {X : Type 0} (text : X → List ℕ) (items : List X) (i : ℕ) (item : X) (out before after : List ℕ) → slice_get items i ≡ Some item → before ≡ out ++ flat_map text (take i items) → after ≡ before ++ text item → after ≡ out ++ flat_map text (take (i + 1) items)
one_more text items i item out before after is so_far one =
    let within : i < _ = slice_get_within items i item is in
    let here : get_or items i item ≡ item = get_or_from_slice_get items i item item is in
    let more : flat_map text (take (i + 1) items) ≡ flat_map text (take i items) ++ text item =
    ap (λ xs. flat_map text xs) (take_more items i item within ∙ ap (λ x. take i items ++ x ∷ []) here)
    ∙ (flat_map-append text (take i items) (item ∷ []) ∙ ap (λ t. flat_map text (take i items) ++ t) (append-nil (text item))) in
    one ∙ (ap (λ b. b ++ text item) so_far ∙ (append_assoc out (flat_map text (take i items)) (text item) ∙ ap (λ t. out ++ t) (sym more)))
