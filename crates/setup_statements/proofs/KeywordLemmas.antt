-- One keyword a word, and the words of functions are text.
use Rattle.std.proofs.Common.{◌≡◌, ℕ, ◌+◌, ◌*◌, true, nat_lt, List, length, get_or, ap, refl, arith}
use Rattle.std.specs.Prelude.{IsUtf8}
use Rattle.std.specs.List.{list_all}
use Rattle.std.proofs.lemmas.Bool.Decides.{Decides-ltb}
use Rattle.std.proofs.lemmas.List.Sums.{AllPass-from_list_all}
use Rattle.std.proofs.lemmas.Str.{IsUtf8-from_ascii}
use Rattle.std.proofs.lemmas.Str.Ascii.{IsAscii-from_all}
use Rattle.setup_statements.specs.declared.keywords.Keyword.{Keyword}
use Rattle.setup_statements.specs.declared.keywords.Keyword.TheVariants as keyword
use Rattle.setup_statements.specs.declared.keywords.FunctionWord.{FunctionWord}
use Rattle.setup_statements.specs.declared.keywords.FunctionWord.TheVariants as function
use Rattle.setup_statements.specs.Keywords.{keyword_text, function_word_text}

-- words differ that have other lengths or other first bytes
pub differ : (v w : List ℕ) → v ≡ w → (256 * length v + get_or v 0 0) ≡ (256 * length w + get_or w 0 0)
differ v w e = ap (λ x. 256 * length x + get_or x 0 0) e

pub one_keyword : (a b : Keyword) → keyword_text a ≡ keyword_text b → a ≡ b
one_keyword keyword.Local keyword.Local e = refl
one_keyword keyword.Target keyword.Target e = refl
one_keyword keyword.Peer keyword.Peer e = refl
one_keyword keyword.Forwarder keyword.Forwarder e = refl
one_keyword keyword.Ingress keyword.Ingress e = refl
one_keyword keyword.Instance keyword.Instance e = refl
one_keyword keyword.Rule keyword.Rule e = refl
one_keyword a b e = absurd (omega (arith, differ _ _ e))

pub one_function_word : (a b : FunctionWord) → function_word_text a ≡ function_word_text b → a ≡ b
one_function_word function.Pass function.Pass e = refl
one_function_word function.Firewall function.Firewall e = refl
one_function_word function.Remark function.Remark e = refl
one_function_word function.Nat function.Nat e = refl
one_function_word function.HopLimit function.HopLimit e = refl
one_function_word function.PushVlan function.PushVlan e = refl
one_function_word function.PopVlan function.PopVlan e = refl
one_function_word function.Stamp function.Stamp e = refl
one_function_word function.RequireMeta function.RequireMeta e = refl
one_function_word function.ClearMeta function.ClearMeta e = refl
one_function_word a b e = absurd (omega (arith, differ _ _ e))

text_of_low : (w : List ℕ) → list_all (λ b. nat_lt b 128) w ≡ true → IsUtf8 w
text_of_low w h =
    let low = AllPass-from_list_all (λ b. nat_lt b 128) w h in
    IsUtf8-from_ascii w (IsAscii-from_all w (λ k d lt. (Decides-ltb _ 128).0 (low k d lt)))

pub function_word_is_text : (f : FunctionWord) → IsUtf8 (function_word_text f)
function_word_is_text function.Pass = text_of_low _ refl
function_word_is_text function.Firewall = text_of_low _ refl
function_word_is_text function.Remark = text_of_low _ refl
function_word_is_text function.Nat = text_of_low _ refl
function_word_is_text function.HopLimit = text_of_low _ refl
function_word_is_text function.PushVlan = text_of_low _ refl
function_word_is_text function.PopVlan = text_of_low _ refl
function_word_is_text function.Stamp = text_of_low _ refl
function_word_is_text function.RequireMeta = text_of_low _ refl
function_word_is_text function.ClearMeta = text_of_low _ refl
