-- The characters of a name.
use Rattle.std.proofs.Common.{◌≡◌, ℕ, ◌<◌, true, List, arith}
use Rattle.std.specs.Prelude.{IsUtf8}
use Rattle.std.proofs.lemmas.Bool.Decides.{nat_tests}
use Rattle.std.proofs.lemmas.Str.{IsUtf8-from_ascii}
use Rattle.std.proofs.lemmas.Str.Ascii.{IsAscii-from_all}
use Rattle.text_words.specs.Names.{is_name_byte, IsName}

small : (c : ℕ) → is_name_byte c ≡ true → c < 128
small c h = grind (arith, nat_tests)

-- a name is text
pub name_is_text : (name : List ℕ) → IsName name → IsUtf8 name
name_is_text name h = IsUtf8-from_ascii name (IsAscii-from_all name (λ k d lt. small _ (h.characters k d lt)))
