-- Rows that are added one behind another, and the words of reasons as text.
use Rattle.std.proofs.Common.{◌≡◌, ℕ, Bool, true, nat_lt, cond, List, [], ◌∷◌, ◌++◌, refl, ap, ◌∙◌}
use Rattle.std.specs.Prelude.{IsUtf8}
use Rattle.std.specs.List.{list_all}
use Rattle.std.proofs.lemmas.Bool.Decides.{Decides-ltb}
use Rattle.std.proofs.lemmas.List.Sums.{AllPass-from_list_all}
use Rattle.std.proofs.lemmas.Str.{IsUtf8-from_ascii}
use Rattle.std.proofs.lemmas.Str.Ascii.{IsAscii-from_all}
use Rattle.wire_base.specs.Codes.{Row, takes}
use Rattle.record_text.specs.declared.reason_words.ReasonWord.{ReasonWord}
use Rattle.record_text.specs.declared.reason_words.ReasonWord.TheVariants as word
use Rattle.record_text.specs.Steps.{reason_word_text}

-- what a table holds after a row was added that it takes
pub added : (most : ℕ) (old new rows : List Row) (r : Row) (answer : Bool) → answer ≡ takes most old r → new ≡ cond answer (old ++ r ∷ []) old
    → old ≡ rows → takes most rows r ≡ true → new ≡ rows ++ r ∷ []
added most old new rows r answer is_answer is_new same taken =
    let yes : answer ≡ true = is_answer ∙ ap (λ l. takes most l r) same ∙ taken in
    rw yes at is_new ∙ ap (λ l. l ++ r ∷ []) same

text_of_low : (w : List ℕ) → list_all (λ b. nat_lt b 128) w ≡ true → IsUtf8 w
text_of_low w h =
    let low = AllPass-from_list_all (λ b. nat_lt b 128) w h in
    IsUtf8-from_ascii w (IsAscii-from_all w (λ k d lt. (Decides-ltb _ 128).0 (low k d lt)))

pub reason_word_is_text : (w : ReasonWord) → IsUtf8 (reason_word_text w)
reason_word_is_text word.Rule = text_of_low _ refl
reason_word_is_text word.NshIngress = text_of_low _ refl
reason_word_is_text word.Ttl = text_of_low _ refl
reason_word_is_text word.NoPath = text_of_low _ refl
reason_word_is_text word.NoInstance = text_of_low _ refl
reason_word_is_text word.Denied = text_of_low _ refl
reason_word_is_text word.HopLimit = text_of_low _ refl
reason_word_is_text word.Meta = text_of_low _ refl
reason_word_is_text word.MetaFull = text_of_low _ refl
reason_word_is_text word.TooLong = text_of_low _ refl
