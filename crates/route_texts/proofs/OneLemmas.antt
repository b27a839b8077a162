-- One value a word: two spellings that are one word are of one value.
use Rattle.std.proofs.Common.{◌≡◌, ℕ, ◌<◌, ◌≤◌, Bool, false, List, [], ◌∷◌, ◌++◌, length, refl, sym, ◌∙◌, ap, arith, lit<}
use Rattle.std.specs.Prelude.{◌==◌}
use Rattle.std.specs.List.{All}
use Rattle.std.specs.Fmt.{decimal}
use Rattle.std.proofs.lemmas.Fmt.{decimal_injective}
use Rattle.std.proofs.lemmas.Bool.Decides.{nat_tests}
use Rattle.std.proofs.lemmas.List.Splits.{slice_split_at, slice_split_none}
use Rattle.hex.specs.Hex.{decode_sized}
use Rattle.wire_base.specs.declared.next_hops.NextHop.{NextHop}
use Rattle.wire_base.specs.declared.next_hops.NextHop.TheVariants.{Four, Sixteen}
use Rattle.text_words.specs.Pieces.{pieces_of}
use Rattle.text_words.specs.Hexadecimal.{IsOctets, hexadecimal}
use Rattle.text_words.specs.Addresses.{dotted, address_text, IsAddress}
use Rattle.text_words.proofs.NumberLemmas.{decimal-lacks}
use Rattle.text_words.proofs.HexLemmas.{sized-hexadecimal}
use Rattle.route_texts.proofs.TextLemmas.{hexadecimal_all}

-- bytes of one length
pub one_hexadecimal : (n : ℕ) (a b : List ℕ) → IsOctets n a → IsOctets n b → hexadecimal a ≡ hexadecimal b → a ≡ b
one_hexadecimal n a b ha hb e =
    let da = sized-hexadecimal a n ha in
    let db = sized-hexadecimal b n hb in
    let same = sym da ∙ ap (λ w. decode_sized w n) e ∙ db in
    cc

no_point : (n : ℕ) → n < 256 → All (λ b. (b == 46) ≡ false) (decimal n)
no_point n h = decimal-lacks 46 n (lit< tt) (omega (arith, h))

cut_of_four : (a b c d : ℕ) → a < 256 → b < 256 → c < 256 → d < 256
    → pieces_of 46 (dotted (a ∷ b ∷ c ∷ d ∷ [])) ≡ decimal a ∷ decimal b ∷ decimal c ∷ decimal d ∷ []
unfolding pieces_of
cut_of_four a b c d ha hb hc hd =
    let p : ℕ → Bool = λ x. x == 46 in
    let last = slice_split_none p (decimal d) (no_point d hd) in
    let third = slice_split_at p (decimal c) 46 (decimal d) (no_point c hc) refl in
    let second = slice_split_at p (decimal b) 46 (decimal c ++ 46 ∷ decimal d) (no_point b hb) refl in
    let first = slice_split_at p (decimal a) 46 (decimal b ++ 46 ∷ (decimal c ++ 46 ∷ decimal d)) (no_point a ha) refl in
    first ∙ ap (λ r. decimal a ∷ r) (second ∙ ap (λ r. decimal b ∷ r) (third ∙ ap (λ r. decimal c ∷ r) last))

-- four bytes by their places
pub record Bytes4 (octets : List ℕ) : Type 0 where
  pub a : ℕ
  pub b : ℕ
  pub c : ℕ
  pub d : ℕ
  pub small_a : a < 256
  pub small_b : b < 256
  pub small_c : c < 256
  pub small_d : d < 256
  pub is : octets ≡ a ∷ b ∷ c ∷ d ∷ []

pub four_bytes : (octets : List ℕ) → IsOctets 4 octets → Bytes4 octets
four_bytes [] h = absurd (omega (arith, h.0))
four_bytes (a ∷ []) h = absurd (omega (arith, h.0))
four_bytes (a ∷ b ∷ []) h = absurd (omega (arith, h.0))
four_bytes (a ∷ b ∷ c ∷ []) h = absurd (omega (arith, h.0))
four_bytes (a ∷ b ∷ c ∷ d ∷ []) h = record {
  a = a;
  b = b;
  c = c;
  d = d;
  small_a = h.1 0 0 (lit< tt);
  small_b = h.1 1 0 (lit< tt);
  small_c = h.1 2 0 (lit< tt);
  small_d = h.1 3 0 (lit< tt);
  is = refl;
}
four_bytes (a ∷ b ∷ c ∷ d ∷ x ∷ xs) h = absurd (omega (arith, h.0))

cut_of : (octets : List ℕ) (f : Bytes4 octets) → pieces_of 46 (dotted octets) ≡ decimal f.a ∷ decimal f.b ∷ decimal f.c ∷ decimal f.d ∷ []
cut_of octets f = ap (λ o. pieces_of 46 (dotted o)) f.is ∙ cut_of_four f.a f.b f.c f.d f.small_a f.small_b f.small_c f.small_d

pub byte_is : (m n : ℕ) → m < 256 → n < 256 → decimal m ≡ decimal n → m ≡ n
byte_is m n hm hn e = decimal_injective m n (omega (arith, hm)) (omega (arith, hn)) e

heads_are : {X : Type 0} (x y : X) (xs ys : List X) → x ∷ xs ≡ y ∷ ys → x ≡ y
heads_are x y xs ys e = cc

tails_are : {X : Type 0} (x y : X) (xs ys : List X) → x ∷ xs ≡ y ∷ ys → xs ≡ ys
tails_are x y xs ys e = cc

same_four : (a b c d e f g h : ℕ) → a ≡ e → b ≡ f → c ≡ g → d ≡ h → a ∷ b ∷ c ∷ d ∷ [] ≡ e ∷ f ∷ g ∷ h ∷ []
same_four a b c d e f g h p q r s = cc

-- four numbers joined by points
pub one_dotted : (a b : List ℕ) → IsOctets 4 a → IsOctets 4 b → dotted a ≡ dotted b → a ≡ b
one_dotted a b ha hb e =
    let fa = four_bytes a ha in
    let fb = four_bytes b hb in
    let all = sym (cut_of a fa) ∙ ap (pieces_of 46) e ∙ cut_of b fb in
    let all2 = tails_are _ _ _ _ all in
    let all3 = tails_are _ _ _ _ all2 in
    let all4 = tails_are _ _ _ _ all3 in
    fa.is
    ∙ same_four _ _ _ _ _ _ _ _
    (byte_is fa.a fb.a fa.small_a fb.small_a (heads_are _ _ _ _ all))
    (byte_is fa.b fb.b fa.small_b fb.small_b (heads_are _ _ _ _ all2))
    (byte_is fa.c fb.c fa.small_c fb.small_c (heads_are _ _ _ _ all3))
    (byte_is fa.d fb.d fa.small_d fb.small_d (heads_are _ _ _ _ all4))
    ∙ sym fb.is

digit_is_no_point : (c : ℕ) → 48 ≤ c → c ≤ 57 → (c == 46) ≡ false
digit_is_no_point c low high = grind (arith, nat_tests)

letter_is_no_point : (c : ℕ) → 97 ≤ c → c ≤ 102 → (c == 46) ≡ false
letter_is_no_point c low high = grind (arith, nat_tests)

-- hexadecimal digits are no four numbers
two_forms : (a b : List ℕ) → IsOctets 4 a → IsOctets 16 b → dotted a ≡ hexadecimal b → ⊥
unfolding pieces_of
two_forms a b ha hb e =
    let lacks = hexadecimal_all (λ b. (b == 46) ≡ false) digit_is_no_point letter_is_no_point b hb.1 in
    let one = slice_split_none (λ x. x == 46) (hexadecimal b) lacks in
    let four = cut_of a (four_bytes a ha) in
    let lengths = ap length (sym four ∙ ap (pieces_of 46) e ∙ one) in
    omega (arith, lengths)

-- an address in one of its two forms
pub one_address : (a b : NextHop) → IsAddress a → IsAddress b → address_text a ≡ address_text b → a ≡ b
one_address (Four a) (Four b) ha hb e = ap Four (one_dotted a b ha hb e)
one_address (Four a) (Sixteen b) ha hb e = absurd (two_forms a b ha hb e)
one_address (Sixteen a) (Four b) ha hb e = absurd (two_forms b a hb ha (sym e))
one_address (Sixteen a) (Sixteen b) ha hb e = ap Sixteen (one_hexadecimal 16 a b ha hb e)
