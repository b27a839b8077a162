-- Decimal text: it is text, and it holds none of the marks below the digits.
use Rattle.std.proofs.Common.{◌≡◌, ℕ, ◌<◌, ◌^◌, true, false, List, [], ◌∷◌, arith}
use Rattle.std.specs.Prelude.{◌==◌, IsUtf8}
use Rattle.std.specs.Fmt.{decimal}
use Rattle.std.specs.Char.{is_ascii_digit}
use Rattle.std.specs.Str.{all_ascii_digits}
use Rattle.std.specs.List.{All, AllByRecursion}
use Rattle.std.proofs.lemmas.Bool.{and_parts}
use Rattle.std.proofs.lemmas.Bool.Decides.{nat_tests}
use Rattle.std.proofs.lemmas.Fmt.{IsAscii-decimal, digits_decimal}
use Rattle.std.proofs.lemmas.List.Elements.{All-from_recursion}
use Rattle.std.proofs.lemmas.Str.{IsUtf8-from_ascii}
use Rattle.std.proofs.lemmas.Str.Parse.{numerals_by_value, tells_all_ascii_digits}

-- decimal text is text
pub decimal_is_text : (n : ℕ) → n < 2 ^ 64 → IsUtf8 (decimal n)
decimal_is_text n h = IsUtf8-from_ascii (decimal n) (IsAscii-decimal n h)

-- a digit is no mark below 48
digit_is_no_mark : (mark c : ℕ) → mark < 48 → is_ascii_digit c ≡ true → (c == mark) ≡ false
digit_is_no_mark mark c low h = grind (arith, nat_tests)

digits_lack : (mark : ℕ) (ds : List ℕ) → mark < 48 → all_ascii_digits ds ≡ true → AllByRecursion (λ b. (b == mark) ≡ false) ds
digits_lack mark [] low h = tt
digits_lack mark (c ∷ cs) low h =
    let parts = and_parts (is_ascii_digit c) (all_ascii_digits cs) h in
    (digit_is_no_mark mark c low parts.0, digits_lack mark cs low parts.1)

-- decimal text holds no mark below 48, as a space, a point, a comma or a dash
pub decimal-lacks : (mark n : ℕ) → mark < 48 → n < 2 ^ 64 → All (λ b. (b == mark) ≡ false) (decimal n)
decimal-lacks mark n low h =
    All-from_recursion _ (decimal n) (digits_lack mark (decimal n) low (digits_decimal (numerals_by_value _ tells_all_ascii_digits) n h))
