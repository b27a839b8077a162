-- The bytes of spelled words: digits, points and hexadecimal letters.
use Rattle.std.proofs.Common.{◌≡◌, ℕ, ◌/◌, ◌%◌, ◌<◌, ◌≤◌, ◌^◌, true, List, [], ◌∷◌, ◌++◌, arith, lit<}
use Rattle.std.specs.Fmt.{decimal}
use Rattle.std.specs.Char.{is_ascii_digit}
use Rattle.std.specs.Str.{all_ascii_digits}
use Rattle.std.specs.List.{All, AllByRecursion}
use Rattle.std.proofs.lemmas.Bool.{and_parts}
use Rattle.std.proofs.lemmas.Bool.Decides.{nat_tests}
use Rattle.std.proofs.lemmas.Fmt.{digits_decimal}
use Rattle.std.proofs.lemmas.List.Elements.{All-from_recursion, recursion_from_All, All-append, All-cons}
use Rattle.std.proofs.lemmas.Str.Parse.{numerals_by_value, tells_all_ascii_digits}
use Rattle.hex.specs.Hex.{encode_with, lower_digits}
use Rattle.wire_base.specs.Numbers.{AreBytes}
use Rattle.wire_base.specs.declared.next_hops.NextHop.{NextHop}
use Rattle.wire_base.specs.declared.next_hops.NextHop.TheVariants.{Four, Sixteen}
use Rattle.text_words.specs.Hexadecimal.{IsOctets, hexadecimal}
use Rattle.text_words.specs.Addresses.{dotted, address_text, IsAddress}

-- what holds of every decimal digit
abbrev pub OfDigits : (ℕ → Type 0) → Type 0
OfDigits P = (c : ℕ) → 48 ≤ c → c ≤ 57 → P c

-- what holds of the letters a to f
abbrev pub OfLetters : (ℕ → Type 0) → Type 0
OfLetters P = (c : ℕ) → 97 ≤ c → c ≤ 102 → P c

low : (c : ℕ) → is_ascii_digit c ≡ true → 48 ≤ c
low c h = grind (arith, nat_tests)

high : (c : ℕ) → is_ascii_digit c ≡ true → c ≤ 57
high c h = grind (arith, nat_tests)

digits_all : (P : ℕ → Type 0) → OfDigits P → (ds : List ℕ) → all_ascii_digits ds ≡ true → AllByRecursion P ds
digits_all P hd [] h = tt
digits_all P hd (c ∷ cs) h =
    let parts = and_parts (is_ascii_digit c) (all_ascii_digits cs) h in
    (hd c (low c parts.0) (high c parts.0), digits_all P hd cs parts.1)

-- the bytes of a decimal number
pub decimal_all : (P : ℕ → Type 0) → OfDigits P → (n : ℕ) → n < 2 ^ 64 → All P (decimal n)
decimal_all P hd n h =
    All-from_recursion P (decimal n) (digits_all P hd (decimal n) (digits_decimal (numerals_by_value _ tells_all_ascii_digits) n h))

lower_all : (P : ℕ → Type 0) → OfDigits P → OfLetters P → All P lower_digits
lower_all P hd hl = All-from_recursion P lower_digits
    (hd 48 (omega arith) (omega arith), (hd 49 (omega arith) (omega arith), (hd 50 (omega arith) (omega arith), (hd 51 (omega arith) (omega arith), (hd 52 (omega arith) (omega arith), (hd 53 (omega arith) (omega arith), (hd 54 (omega arith) (omega arith), (hd 55 (omega arith) (omega arith), (hd 56 (omega arith) (omega arith), (hd 57 (omega arith) (omega arith), (hl 97 (omega arith) (omega arith), (hl 98 (omega arith) (omega arith), (hl 99 (omega arith) (omega arith), (hl 100 (omega arith) (omega arith), (hl 101 (omega arith) (omega arith), (hl 102 (omega arith) (omega arith), tt))))))))))))))))

encoded_all : (P : ℕ → Type 0) → All P lower_digits → (bytes : List ℕ) → AllByRecursion (λ b. b < 256) bytes → AllByRecursion P (encode_with lower_digits bytes)
unfolding encode_with
encoded_all P all [] h = tt
encoded_all P all (b ∷ bs) h =
    let small : b / 16 < 16 = omega (arith, h.0) in
    (all (b / 16) 0 small, (all (b % 16) 0 (omega arith), encoded_all P all bs h.1))

-- the bytes of hexadecimal digits
pub hexadecimal_all : (P : ℕ → Type 0) → OfDigits P → OfLetters P → (bytes : List ℕ) → AreBytes bytes → All P (hexadecimal bytes)
hexadecimal_all P hd hl bytes h =
    All-from_recursion P (hexadecimal bytes) (encoded_all P (lower_all P hd hl) bytes (recursion_from_All _ bytes h))

-- the bytes of four numbers joined by points
pub dotted_all : (P : ℕ → Type 0) → OfDigits P → P 46 → (octets : List ℕ) → IsOctets 4 octets → All P (dotted octets)
dotted_all P hd point [] h = absurd (omega (arith, h.0))
dotted_all P hd point (a ∷ []) h = absurd (omega (arith, h.0))
dotted_all P hd point (a ∷ b ∷ []) h = absurd (omega (arith, h.0))
dotted_all P hd point (a ∷ b ∷ c ∷ []) h = absurd (omega (arith, h.0))
dotted_all P hd point (a ∷ b ∷ c ∷ d ∷ []) h =
    let number = λ (n : ℕ) (small : n < 256). decimal_all P hd n (omega (arith, small)) in
    let d4 = number d (h.1 3 0 (lit< tt)) in
    let d3 = All-append P (decimal c) (46 ∷ decimal d) (number c (h.1 2 0 (lit< tt))) (All-cons P 46 (decimal d) point d4) in
    let d2 = All-append P (decimal b) (46 ∷ (decimal c ++ 46 ∷ decimal d)) (number b (h.1 1 0 (lit< tt))) (All-cons P 46 _ point d3) in
    All-append P (decimal a) (46 ∷ (decimal b ++ 46 ∷ (decimal c ++ 46 ∷ decimal d))) (number a (h.1 0 0 (lit< tt))) (All-cons P 46 _ point d2)
dotted_all P hd point (a ∷ b ∷ c ∷ d ∷ x ∷ xs) h = absurd (omega (arith, h.0))

-- the bytes of an address
pub address_all : (P : ℕ → Type 0) → OfDigits P → OfLetters P → P 46 → (address : NextHop) → IsAddress address → All P (address_text address)
address_all P hd hl point (Four octets) h = dotted_all P hd point octets h
address_all P hd hl point (Sixteen octets) h = hexadecimal_all P hd hl octets h.1
