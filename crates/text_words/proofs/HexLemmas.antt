-- Hexadecimal text of as many bytes as there is room for.
use Rattle.std.proofs.Common.{◌≡◌, ℕ, zero, suc, ◌+◌, ◌*◌, ◌/◌, ◌%◌, ◌<◌, Bool, true, false, ◌&&◌, List, [], ◌∷◌, ◌++◌, length, slice_index, append_assoc, append-nil, ◌≤◌, Option, Some, None, refl, sym, subst, ◌∙◌, ap, inl, inr, ◌⊎◌, arith, Result, Ok, Err}
use Rattle.std.specs.Prelude.{MatchResult, ◌≢◌}
use Rattle.std.specs.List.{AllByRecursion, AllPass}
use Rattle.std.specs.Result.{result_unwrap_or}
use Rattle.std.proofs.lemmas.Bool.{and_parts, cases_lt}
use Rattle.std.proofs.lemmas.List.Elements.{All-from_recursion, recursion_from_All, All-cons, All-head, All-nil, All-tail}
use Rattle.hex.specs.declared.error.FromHexError.{FromHexError}
use Rattle.hex.specs.Hex.{decode_pairs, decode_sized, digit_or_error, value_at, pair_value, ◌>>=◌, hex_digit_value, encode_lower, encode_with, lower_digits, IsBytes}
use Rattle.hex.proofs.HexLemmas.{length-encode_with, decode_of-encode_lower, decode_of-even, decode_of-ok, decode_sized-twice, decode_sized-ok, IsDigits-lower_digits}
use Rattle.wire_base.specs.Numbers.{AreBytes}
use Rattle.text_words.specs.Hexadecimal.{hexadecimal, IsOctets, octets_or_dash, is_lower_digit}
use Rattle.text_words.specs.Printing.{AppendsFront}

by_place : (xs : List ℕ) → AllByRecursion (λ b. b < 256) xs → IsBytes xs
by_place [] h i = omega arith
by_place (x ∷ xs) h zero = h.0
by_place (x ∷ xs) h (suc i) = by_place xs h.1 i

by_recursion : (xs : List ℕ) → IsBytes xs → AllByRecursion (λ b. b < 256) xs
by_recursion [] h = tt
by_recursion (x ∷ xs) h = (h 0, by_recursion xs (λ i. h (suc i)))

-- the digits of n bytes decode into room for n bytes
pub sized-hexadecimal : (bytes : List ℕ) (n : ℕ) → IsOctets n bytes → decode_sized (hexadecimal bytes) n ≡ Ok bytes
sized-hexadecimal bytes n h =
    let long = length-encode_with lower_digits bytes in
    let fits : length (encode_lower bytes) ≡ 2 * n = omega (arith, long, h.0) in
    decode_sized-twice (encode_lower bytes) n fits ∙ decode_of-encode_lower bytes (by_place bytes (recursion_from_All _ bytes h.1))

-- what was decoded is bytes
decoded_bytes : (word out : List ℕ) (n : ℕ) → decode_sized word n ≡ Ok out → AreBytes out
decoded_bytes word out n h =
    let twice = decode_sized-ok word n out h in
    let parts = decode_of-ok word out (sym (decode_sized-twice word n twice) ∙ h) in
    All-from_recursion _ out (by_recursion out parts.3)

-- what a call that decoded says
decoded_as : {U : Type 0} (s : Result (List ℕ) FromHexError) (r : Result U FromHexError) (u x : U) (out : List ℕ)
    → MatchResult s (λ bytes. (r ≡ Ok u) × (out ≡ bytes)) (λ e. r ≡ Err e) → r ≡ Ok x → s ≡ Ok out
decoded_as (Ok bytes) r u x out h ok = ap Ok (sym h.1)
decoded_as (Err e) r u x out h ok = absurd cc

-- ---- digits in lower case

-- the fact of AllPass
abbrev lower_holds : ℕ → Type 0
lower_holds c = is_lower_digit c ≡ true

-- the first n digits of the table are in lower case
abbrev all_lower : ℕ → Bool
all_lower zero = true
all_lower (suc n) = is_lower_digit (slice_index lower_digits n) && all_lower n

all_lower-at : (n k : ℕ) → all_lower n ≡ true → k < n → is_lower_digit (slice_index lower_digits k) ≡ true
all_lower-at zero k h lt = absurd (omega arith)
all_lower-at (suc n) k h lt =
    let parts = and_parts (is_lower_digit (slice_index lower_digits n)) (all_lower n) h in
    elim (cases_lt k n) [
      | inl below ↦ all_lower-at n k parts.1 below
      | inr top ↦
          let e : k ≡ n = omega arith in
          rw e parts.0
    ]

lower_at : (k : ℕ) → k < 16 → is_lower_digit (slice_index lower_digits k) ≡ true
lower_at k lt = all_lower-at 16 k refl lt

-- the digits of bytes are in lower case
pub digits_are_lower : (bytes : List ℕ) → AllByRecursion (λ b. b < 256) bytes → AllPass is_lower_digit (hexadecimal bytes)
unfolding encode_with
digits_are_lower [] h = All-nil lower_holds
digits_are_lower (b ∷ bs) h =
    let fits = h.0 in
    let low = slice_index lower_digits (b % 16) in
    All-cons lower_holds (slice_index lower_digits (b / 16)) (low ∷ hexadecimal bs) (lower_at (b / 16) (omega arith))
    (All-cons lower_holds low (hexadecimal bs) (lower_at (b % 16) (omega arith)) (digits_are_lower bs h.1))

value_small : (c v : ℕ) → hex_digit_value c ≡ Some v → v < 16
value_small c v h = grind (arith)

lower_value : (c v : ℕ) → is_lower_digit c ≡ true → hex_digit_value c ≡ Some v → ((c ≡ v + 48) × (v ≤ 9)) ⊎ ((c ≡ v + 87) × (10 ≤ v))
lower_value c v h is = grind (arith)

-- a digit in lower case is the only one with its value
same_digit : (c d v : ℕ) → is_lower_digit c ≡ true → is_lower_digit d ≡ true → hex_digit_value c ≡ Some v → hex_digit_value d ≡ Some v → c ≡ d
same_digit c d v hc hd vc vd = omega (arith, lower_value c v hc vc, lower_value d v hd vd)

digit_is : (c v : ℕ) → is_lower_digit c ≡ true → hex_digit_value c ≡ Some v → slice_index lower_digits v ≡ c
digit_is c v h is =
    let small = value_small c v is in
    same_digit (slice_index lower_digits v) c v (lower_at v small) h (IsDigits-lower_digits v small) is

bind_ok : {A B : Type 0} (r : Result A FromHexError) (f : A → Result B FromHexError) (y : B)
    → (r >>= f) ≡ Ok y → (x : A) × (r ≡ Ok x) × (f x ≡ Ok y)
bind_ok (Ok x) f y h = (x, refl, h)
bind_ok (Err e) f y h = cc h

digit_read : (c i : ℕ) (o : Option ℕ) (v : ℕ) → digit_or_error c i o ≡ Ok v → o ≡ Some v
digit_read c i (Some w) v h = ap Some (ap (λ (r : Result ℕ FromHexError). result_unwrap_or r 0) h)
digit_read c i None v h = cc h

-- digits in lower case are those of what they decode to
pub decoded_digits : (i : ℕ) (s bytes : List ℕ) → AllPass is_lower_digit s → decode_pairs i s ≡ Ok bytes → s ≡ hexadecimal bytes
unfolding decode_pairs encode_with
decoded_digits i [] bytes lower h =
    let e : [] ≡ bytes = ap (λ (r : Result (List ℕ) FromHexError). result_unwrap_or r []) h in
    ap hexadecimal e
decoded_digits i (a ∷ []) bytes lower h = cc h
decoded_digits i (a ∷ b ∷ rest) bytes lower h =
    let p0 = bind_ok (pair_value a b i) _ bytes h in
    let p1 = bind_ok (value_at a i) _ p0.0 p0.1 in
    let p2 = bind_ok (value_at b (i + 1)) _ p0.0 p1.2 in
    let p3 = bind_ok (decode_pairs (i + 2) rest) _ bytes p0.2 in
    let behind = All-tail lower_holds a (b ∷ rest) lower in
    let ih = decoded_digits (i + 2) rest p3.0 (All-tail lower_holds b rest behind) p3.1 in
    let e : p0.0 ∷ p3.0 ≡ bytes = ap (λ (r : Result (List ℕ) FromHexError). result_unwrap_or r []) p3.2 in
    let va = digit_read a i (hex_digit_value a) p1.0 p1.1 in
    let vb = digit_read b (i + 1) (hex_digit_value b) p2.0 p2.1 in
    let small = value_small a p1.0 va in
    let low = value_small b p2.0 vb in
    let byte : p1.0 * 16 + p2.0 ≡ p0.0 = ap (λ (r : Result ℕ FromHexError). result_unwrap_or r 0) p2.2 in
    let da : slice_index lower_digits (p0.0 / 16) ≡ a =
    ap (slice_index lower_digits) (omega (arith, byte, small, low)) ∙ digit_is a p1.0 (All-head lower_holds a (b ∷ rest) lower) va in
    let db : slice_index lower_digits (p0.0 % 16) ≡ b =
    ap (slice_index lower_digits) (omega (arith, byte, small, low)) ∙ digit_is b p2.0 (All-head lower_holds b rest behind) vb in
    let joined : hexadecimal (p0.0 ∷ p3.0) ≡ a ∷ b ∷ rest = cc in
    sym joined ∙ ap hexadecimal e

-- a word in lower case that decoded is the digits of what was decoded
pub filled : {U : Type 0} (word out : List ℕ) (n : ℕ) (r : Result U FromHexError) (u x : U)
    → MatchResult (decode_sized word n) (λ bytes. (r ≡ Ok u) × (out ≡ bytes)) (λ e. r ≡ Err e) → r ≡ Ok x
    → AllPass is_lower_digit word → AreBytes out × (word ≡ hexadecimal out)
filled word out n r u x h ok lower =
    let is = decoded_as (decode_sized word n) r u x out h ok in
    let even = decode_sized-ok word n out is in
    let twice = decode_sized-twice word n even in
    let pairs = decode_of-even word (omega (arith, even)) in
    (decoded_bytes word out n is, decoded_digits 0 word out lower (sym (twice ∙ pairs) ∙ is))

-- a word with another byte is the digits of no bytes
pub not_lower : (word bytes : List ℕ) (n : ℕ) → (AllPass is_lower_digit word → ⊥) → IsOctets n bytes → word ≡ hexadecimal bytes → ⊥
not_lower word bytes n other fits is = other (subst (λ w. AllPass is_lower_digit w) (sym is) (digits_are_lower bytes (recursion_from_All _ bytes fits.1)))

refused_as : {U : Type 0} (s : Result (List ℕ) FromHexError) (r : Result U FromHexError) (u : U) (out bytes : List ℕ) (e : FromHexError)
    → MatchResult s (λ bytes. (r ≡ Ok u) × (out ≡ bytes)) (λ e. r ≡ Err e) → r ≡ Err e → s ≡ Ok bytes → ⊥
refused_as (Ok b) r u out bytes e h err ok = let is = h.0 in cc
refused_as (Err f) r u out bytes e h err ok = cc

-- what does not decode is not the digits of n bytes
pub not_filled : {U : Type 0} (word out bytes : List ℕ) (n : ℕ) (r : Result U FromHexError) (u : U) (e : FromHexError)
    → MatchResult (decode_sized word n) (λ bytes. (r ≡ Ok u) × (out ≡ bytes)) (λ e. r ≡ Err e) → r ≡ Err e
    → IsOctets n bytes → word ≡ hexadecimal bytes → ⊥
not_filled word out bytes n r u e h err fits is =
    refused_as (decode_sized word n) r u out bytes e h err (ap (λ w. decode_sized w n) is ∙ sized-hexadecimal bytes n fits)

-- what a word of bytes or a dash is
pub dash_or_digits : (word bytes : List ℕ) → word ≡ octets_or_dash bytes
    → (word ≡ 45 ∷ []) ⊎ ((0 < length bytes) × (length word ≡ 2 * length bytes) × (word ≡ hexadecimal bytes))
dash_or_digits word [] h = inl h
dash_or_digits word (b ∷ bs) h =
    let long = length-encode_with lower_digits (b ∷ bs) in
    inr (omega arith, ap length h ∙ long, h)

-- ---- runs of digits

encode_with-append : (t xs ys : List ℕ) → encode_with t (xs ++ ys) ≡ encode_with t xs ++ encode_with t ys
unfolding encode_with
encode_with-append t [] ys = refl
encode_with-append t (b ∷ xs) ys = let e = encode_with-append t xs ys in cc

-- the digits of joined bytes are the joined digits
pub hexadecimal-append : (xs ys : List ℕ) → hexadecimal (xs ++ ys) ≡ hexadecimal xs ++ hexadecimal ys
hexadecimal-append xs ys = encode_with-append lower_digits xs ys

-- what was printed of some bytes, of which the rest is to come
pub record DigitsSoFar (before out rest all : List ℕ) : Type 0 where
  pub done : List ℕ
  pub split : done ++ rest ≡ all
  pub printed : out ≡ before ++ hexadecimal done

pub none_so_far : (before all : List ℕ) → DigitsSoFar before before all all
unfolding encode_with
none_so_far before all = record { done = []; split = refl; printed = sym (append-nil before) }

-- a run of digits more
pub run_so_far : (before out after run behind left all : List ℕ) → DigitsSoFar before out left all → after ≡ out ++ hexadecimal run → left ≡ run ++ behind
    → DigitsSoFar before after behind all
run_so_far before out after run behind left all so_far one split = record {
  done = so_far.done ++ run;
  split = append_assoc so_far.done run behind ∙ ap (λ (l : List ℕ). so_far.done ++ l) (sym split) ∙ so_far.split;
  printed = one ∙ ap (λ (l : List ℕ). l ++ hexadecimal run) so_far.printed ∙ append_assoc before (hexadecimal so_far.done) (hexadecimal run)
      ∙ ap (λ (l : List ℕ). before ++ l) (sym (hexadecimal-append so_far.done run));
}

-- the last run is the end of the digits
pub all_printed : (before out after left all : List ℕ) → DigitsSoFar before out left all → after ≡ out ++ hexadecimal left → after ≡ before ++ hexadecimal all
all_printed before out after left all so_far last =
    last ∙ ap (λ (l : List ℕ). l ++ hexadecimal left) so_far.printed ∙ append_assoc before (hexadecimal so_far.done) (hexadecimal left)
    ∙ ap (λ (l : List ℕ). before ++ l) (sym (hexadecimal-append so_far.done left) ∙ ap hexadecimal so_far.split)

-- where a run is not printed, a front of the digits was
pub front_printed : (before out after left all : List ℕ) → DigitsSoFar before out left all → after ≡ out → AppendsFront before (hexadecimal all) after
front_printed before out after left all so_far same = record {
  front = hexadecimal so_far.done;
  rest = hexadecimal left;
  cut = sym (hexadecimal-append so_far.done left) ∙ ap hexadecimal so_far.split;
  appended = same ∙ so_far.printed;
}
