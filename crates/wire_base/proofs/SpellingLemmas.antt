-- The 2, 3, 4 and 8 bytes of a number spell it, and bytes are those of the number that they spell.
use Rattle.std.proofs.Common.{◌≡◌, ℕ, ◌/◌, ◌%◌, ◌^◌, ◌<◌, List, [], ◌∷◌, ◌++◌, length, refl, arith}
use Rattle.std.proofs.lemmas.List.Elements.{All-nil, All-cons, All-append}
use Rattle.wire_base.specs.Numbers.{big_endian, AreBytes, IsSpelling, two, three, four, eight}
use Rattle.wire_base.proofs.BigEndianLemmas.{big_endian-append, big_endian_fits, big_endian_one_to_one}

-- a byte before bytes
pub AreBytes-cons : (b : ℕ) (bs : List ℕ) → b < 256 → AreBytes bs → AreBytes (b ∷ bs)
AreBytes-cons b bs small bytes = All-cons (λ b. b < 256) b bs small bytes

pub AreBytes-append : (xs ys : List ℕ) → AreBytes xs → AreBytes ys → AreBytes (xs ++ ys)
AreBytes-append xs ys bx by = All-append (λ b. b < 256) xs ys bx by

AreBytes-nil : AreBytes []
AreBytes-nil = All-nil (λ b. b < 256)

pub two_spells : (n : ℕ) → n < 2 ^ 16 → IsSpelling 2 n (two n)
two_spells n fits = record {
  each = AreBytes-cons (n / 256) (n % 256 ∷ []) (omega (arith, fits)) (AreBytes-cons (n % 256) [] (omega arith) AreBytes-nil);
  len = refl;
  number = omega (arith, fits);
}

pub three_spells : (n : ℕ) → n < 2 ^ 24 → IsSpelling 3 n (three n)
three_spells n fits =
    let low = two_spells (n % 65536) (omega arith) in
    let number : big_endian (two (n % 65536)) ≡ n % 65536 = low.number in
    record {
      each = AreBytes-cons (n / 65536) (two (n % 65536)) (omega (arith, fits)) low.each;
      len = refl;
      number = rw number (omega (arith, fits));
    }

pub four_spells : (n : ℕ) → n < 2 ^ 32 → IsSpelling 4 n (four n)
four_spells n fits =
    let high = two_spells (n / 65536) (omega (arith, fits)) in
    let low = two_spells (n % 65536) (omega arith) in
    let joined = big_endian-append (two (n / 65536)) (two (n % 65536)) in
    record {
      each = AreBytes-append (two (n / 65536)) (two (n % 65536)) high.each low.each;
      len = refl;
      number = rw (joined, high.number, low.number) (omega arith);
    }

pub eight_spells : (n : ℕ) → n < 2 ^ 64 → IsSpelling 8 n (eight n)
eight_spells n fits =
    let high = four_spells (n / 4294967296) (omega (arith, fits)) in
    let low = four_spells (n % 4294967296) (omega arith) in
    let joined = big_endian-append (four (n / 4294967296)) (four (n % 4294967296)) in
    record {
      each = AreBytes-append (four (n / 4294967296)) (four (n % 4294967296)) high.each low.each;
      len = refl;
      number = rw (joined, high.number, low.number) (omega arith);
    }

-- bytes that spell the number of others as many are those
same_spelling : (size : ℕ) (spelled bytes : List ℕ) → IsSpelling size (big_endian bytes) spelled → AreBytes bytes → length bytes ≡ size → spelled ≡ bytes
same_spelling size spelled bytes is each len =
    big_endian_one_to_one spelled bytes is.each each (omega (arith, len, is.len)) is.number

fits_in : (bytes : List ℕ) (size : ℕ) → AreBytes bytes → length bytes ≡ size → big_endian bytes < 256 ^ size
fits_in bytes size each len = let fits = big_endian_fits bytes each in rw len at fits

pub two_of_number : (bytes : List ℕ) → AreBytes bytes → length bytes ≡ 2 → two (big_endian bytes) ≡ bytes
two_of_number bytes each len = same_spelling 2 (two (big_endian bytes)) bytes (two_spells (big_endian bytes) (omega (arith, fits_in bytes 2 each len))) each len

pub three_of_number : (bytes : List ℕ) → AreBytes bytes → length bytes ≡ 3 → three (big_endian bytes) ≡ bytes
three_of_number bytes each len = same_spelling 3 (three (big_endian bytes)) bytes (three_spells (big_endian bytes) (omega (arith, fits_in bytes 3 each len))) each len

pub four_of_number : (bytes : List ℕ) → AreBytes bytes → length bytes ≡ 4 → four (big_endian bytes) ≡ bytes
four_of_number bytes each len = same_spelling 4 (four (big_endian bytes)) bytes (four_spells (big_endian bytes) (omega (arith, fits_in bytes 4 each len))) each len

pub eight_of_number : (bytes : List ℕ) → AreBytes bytes → length bytes ≡ 8 → eight (big_endian bytes) ≡ bytes
eight_of_number bytes each len = same_spelling 8 (eight (big_endian bytes)) bytes (eight_spells (big_endian bytes) (omega (arith, fits_in bytes 8 each len))) each len
