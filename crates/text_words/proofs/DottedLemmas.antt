-- Four numbers joined by points, cut at the points and joined again.
use Rattle.std.proofs.Common.{◌≡◌, ℕ, ◌<◌, ◌^◌, Bool, false, List, [], ◌∷◌, ◌++◌, length, get_or, refl, sym, ◌∙◌, ap, subst, arith, append_assoc, lit<}
use Rattle.std.specs.Prelude.{◌==◌, ◌≢◌, MatchOption}
use Rattle.std.proofs.Common.{Option, Some, None}
use Rattle.std.proofs.lemmas.List.Elements.{All-from_recursion}
use Rattle.text_words.specs.Reading.{Reads}
use Rattle.text_words.specs.Printing.{AppendsFront}
use Rattle.std.specs.List.{join_with_byte, All}
use Rattle.std.specs.Fmt.{decimal}
use Rattle.std.proofs.lemmas.List.Splits.{slice_split_at, slice_split_none, join_with_byte-slice_split}
use Rattle.wire_base.specs.Numbers.{AreBytes}
use Rattle.text_words.specs.Hexadecimal.{IsOctets}
use Rattle.text_words.specs.Addresses.{dotted}
use Rattle.text_words.specs.Pieces.{pieces_of}
use Rattle.text_words.proofs.NumberLemmas.{decimal-lacks}

-- a word that spells four numbers, and what stands between its points
pub record FourParts (word : List ℕ) : Type 0 where
  pub a : ℕ
  pub b : ℕ
  pub c : ℕ
  pub d : ℕ
  pub small_a : a < 2 ^ 8
  pub small_b : b < 2 ^ 8
  pub small_c : c < 2 ^ 8
  pub small_d : d < 2 ^ 8
  pub cut : pieces_of 46 word ≡ decimal a ∷ decimal b ∷ decimal c ∷ decimal d ∷ []

-- no point stands in a byte's number
no_point : (n : ℕ) → n < 256 → All (λ b. (b == 46) ≡ false) (decimal n)
no_point n h = decimal-lacks 46 n (lit< tt) (omega (arith, h))

-- the pieces of four numbers joined by points
cut_of_four : (a b c d : ℕ) → a < 256 → b < 256 → c < 256 → d < 256
    → pieces_of 46 (dotted (a ∷ b ∷ c ∷ d ∷ [])) ≡ decimal a ∷ decimal b ∷ decimal c ∷ decimal d ∷ []
unfolding pieces_of
cut_of_four a b c d ha hb hc hd =
    let p : ℕ → Bool = λ x. x == 46 in
    let last = slice_split_none p (decimal d) (no_point d hd) in
    let third = slice_split_at p (decimal c) 46 (decimal d) (no_point c hc) refl in
    let second = slice_split_at p (decimal b) 46 (decimal c ++ 46 ∷ decimal d) (no_point b hb) refl in
    let first = slice_split_at p (decimal a) 46 (decimal b ++ 46 ∷ (decimal c ++ 46 ∷ decimal d)) (no_point a ha) refl in
    first ∙ ap (λ r. decimal a ∷ r) (second ∙ ap (λ r. decimal b ∷ r) (third ∙ ap (λ r. decimal c ∷ r) last))

-- a word that spells four numbers is cut into them
pub four_parts : (word octets : List ℕ) → IsOctets 4 octets → word ≡ dotted octets → FourParts word
four_parts word [] h e = absurd (omega (arith, h.0))
four_parts word (a ∷ []) h e = absurd (omega (arith, h.0))
four_parts word (a ∷ b ∷ []) h e = absurd (omega (arith, h.0))
four_parts word (a ∷ b ∷ c ∷ []) h e = absurd (omega (arith, h.0))
four_parts word (a ∷ b ∷ c ∷ d ∷ []) h e =
    let ha : a < 256 = h.1 0 0 (lit< tt) in
    let hb : b < 256 = h.1 1 0 (lit< tt) in
    let hc : c < 256 = h.1 2 0 (lit< tt) in
    let hd : d < 256 = h.1 3 0 (lit< tt) in
    record {
      a = a;
      b = b;
      c = c;
      d = d;
      small_a = ha;
      small_b = hb;
      small_c = hc;
      small_d = hd;
      cut = ap (pieces_of 46) e ∙ cut_of_four a b c d ha hb hc hd;
    }
four_parts word (a ∷ b ∷ c ∷ d ∷ x ∷ xs) h e = absurd (omega (arith, h.0))

-- a word that is cut into four numbers spells them
pub joined_again : (word : List ℕ) (a b c d : ℕ) → pieces_of 46 word ≡ decimal a ∷ decimal b ∷ decimal c ∷ decimal d ∷ []
    → word ≡ dotted (a ∷ b ∷ c ∷ d ∷ [])
unfolding pieces_of
joined_again word a b c d h = sym (join_with_byte-slice_split 46 word) ∙ ap (join_with_byte 46) h

-- what is appended piece by piece
pub printed : (out octets : List ℕ) → length octets ≡ 4
    → ((((((out ++ decimal (get_or octets 0 0)) ++ 46 ∷ []) ++ decimal (get_or octets 1 0)) ++ 46 ∷ []) ++ decimal (get_or octets 2 0)) ++ 46 ∷ []) ++ decimal (get_or octets 3 0)
    ≡ out ++ dotted octets
printed out [] h = absurd (omega (arith, h))
printed out (a ∷ []) h = absurd (omega (arith, h))
printed out (a ∷ b ∷ []) h = absurd (omega (arith, h))
printed out (a ∷ b ∷ c ∷ []) h = absurd (omega (arith, h))
printed out (a ∷ b ∷ c ∷ d ∷ []) h = simp append_assoc
printed out (a ∷ b ∷ c ∷ d ∷ x ∷ xs) h = absurd (omega (arith, h))

-- the same, each step by its own equation
pub printed_in_turn : (out octets : List ℕ) {o1 o2 o3 o4 o5 o6 o7 : List ℕ} {d0 d1 d2 d3 : ℕ}
    → o1 ≡ out ++ decimal d0 → o2 ≡ o1 ++ 46 ∷ [] → o3 ≡ o2 ++ decimal d1 → o4 ≡ o3 ++ 46 ∷ [] → o5 ≡ o4 ++ decimal d2
    → o6 ≡ o5 ++ 46 ∷ [] → o7 ≡ o6 ++ decimal d3
    → d0 ≡ get_or octets 0 0 → d1 ≡ get_or octets 1 0 → d2 ≡ get_or octets 2 0 → d3 ≡ get_or octets 3 0
    → length octets ≡ 4 → o7 ≡ out ++ dotted octets
printed_in_turn out octets e1 e2 e3 e4 e5 e6 e7 f0 f1 f2 f3 len =
    let all = printed out octets len in
    rw (e7, e6, e5, e4, e3, e2, e1, f0, f1, f2, f3) all

-- the front of four numbers that was appended where the next piece was not: behind the first point and so on
pub front_2 : (out octets : List ℕ) {o1 o2 after : List ℕ} {d0 : ℕ}
    → o1 ≡ out ++ decimal d0 → o2 ≡ o1 ++ 46 ∷ [] → after ≡ o2
    → d0 ≡ get_or octets 0 0 → length octets ≡ 4 → AppendsFront out (dotted octets) after
front_2 out [] e1 e2 last f0 len = absurd (omega (arith, len))
front_2 out (a ∷ []) e1 e2 last f0 len = absurd (omega (arith, len))
front_2 out (a ∷ b ∷ []) e1 e2 last f0 len = absurd (omega (arith, len))
front_2 out (a ∷ b ∷ c ∷ []) e1 e2 last f0 len = absurd (omega (arith, len))
front_2 out (a ∷ b ∷ c ∷ d ∷ []) e1 e2 last f0 len = record {
  front = decimal a ++ 46 ∷ [];
  rest = decimal b ++ 46 ∷ (decimal c ++ 46 ∷ (decimal d));
  cut = simp append_assoc;
  appended = rw (last, e2, e1, f0) (simp append_assoc);
}
front_2 out (a ∷ b ∷ c ∷ d ∷ x ∷ xs) e1 e2 last f0 len = absurd (omega (arith, len))

pub front_3 : (out octets : List ℕ) {o1 o2 o3 after : List ℕ} {d0 d1 : ℕ}
    → o1 ≡ out ++ decimal d0 → o2 ≡ o1 ++ 46 ∷ [] → o3 ≡ o2 ++ decimal d1 → after ≡ o3
    → d0 ≡ get_or octets 0 0 → d1 ≡ get_or octets 1 0 → length octets ≡ 4 → AppendsFront out (dotted octets) after
front_3 out [] e1 e2 e3 last f0 f1 len = absurd (omega (arith, len))
front_3 out (a ∷ []) e1 e2 e3 last f0 f1 len = absurd (omega (arith, len))
front_3 out (a ∷ b ∷ []) e1 e2 e3 last f0 f1 len = absurd (omega (arith, len))
front_3 out (a ∷ b ∷ c ∷ []) e1 e2 e3 last f0 f1 len = absurd (omega (arith, len))
front_3 out (a ∷ b ∷ c ∷ d ∷ []) e1 e2 e3 last f0 f1 len = record {
  front = (decimal a ++ 46 ∷ []) ++ decimal b;
  rest = 46 ∷ (decimal c ++ 46 ∷ (decimal d));
  cut = simp append_assoc;
  appended = rw (last, e3, e2, e1, f0, f1) (simp append_assoc);
}
front_3 out (a ∷ b ∷ c ∷ d ∷ x ∷ xs) e1 e2 e3 last f0 f1 len = absurd (omega (arith, len))

pub front_4 : (out octets : List ℕ) {o1 o2 o3 o4 after : List ℕ} {d0 d1 : ℕ}
    → o1 ≡ out ++ decimal d0 → o2 ≡ o1 ++ 46 ∷ [] → o3 ≡ o2 ++ decimal d1 → o4 ≡ o3 ++ 46 ∷ [] → after ≡ o4
    → d0 ≡ get_or octets 0 0 → d1 ≡ get_or octets 1 0 → length octets ≡ 4 → AppendsFront out (dotted octets) after
front_4 out [] e1 e2 e3 e4 last f0 f1 len = absurd (omega (arith, len))
front_4 out (a ∷ []) e1 e2 e3 e4 last f0 f1 len = absurd (omega (arith, len))
front_4 out (a ∷ b ∷ []) e1 e2 e3 e4 last f0 f1 len = absurd (omega (arith, len))
front_4 out (a ∷ b ∷ c ∷ []) e1 e2 e3 e4 last f0 f1 len = absurd (omega (arith, len))
front_4 out (a ∷ b ∷ c ∷ d ∷ []) e1 e2 e3 e4 last f0 f1 len = record {
  front = ((decimal a ++ 46 ∷ []) ++ decimal b) ++ 46 ∷ [];
  rest = decimal c ++ 46 ∷ (decimal d);
  cut = simp append_assoc;
  appended = rw (last, e4, e3, e2, e1, f0, f1) (simp append_assoc);
}
front_4 out (a ∷ b ∷ c ∷ d ∷ x ∷ xs) e1 e2 e3 e4 last f0 f1 len = absurd (omega (arith, len))

pub front_5 : (out octets : List ℕ) {o1 o2 o3 o4 o5 after : List ℕ} {d0 d1 d2 : ℕ}
    → o1 ≡ out ++ decimal d0 → o2 ≡ o1 ++ 46 ∷ [] → o3 ≡ o2 ++ decimal d1 → o4 ≡ o3 ++ 46 ∷ [] → o5 ≡ o4 ++ decimal d2 → after ≡ o5
    → d0 ≡ get_or octets 0 0 → d1 ≡ get_or octets 1 0 → d2 ≡ get_or octets 2 0 → length octets ≡ 4 → AppendsFront out (dotted octets) after
front_5 out [] e1 e2 e3 e4 e5 last f0 f1 f2 len = absurd (omega (arith, len))
front_5 out (a ∷ []) e1 e2 e3 e4 e5 last f0 f1 f2 len = absurd (omega (arith, len))
front_5 out (a ∷ b ∷ []) e1 e2 e3 e4 e5 last f0 f1 f2 len = absurd (omega (arith, len))
front_5 out (a ∷ b ∷ c ∷ []) e1 e2 e3 e4 e5 last f0 f1 f2 len = absurd (omega (arith, len))
front_5 out (a ∷ b ∷ c ∷ d ∷ []) e1 e2 e3 e4 e5 last f0 f1 f2 len = record {
  front = (((decimal a ++ 46 ∷ []) ++ decimal b) ++ 46 ∷ []) ++ decimal c;
  rest = 46 ∷ (decimal d);
  cut = simp append_assoc;
  appended = rw (last, e5, e4, e3, e2, e1, f0, f1, f2) (simp append_assoc);
}
front_5 out (a ∷ b ∷ c ∷ d ∷ x ∷ xs) e1 e2 e3 e4 e5 last f0 f1 f2 len = absurd (omega (arith, len))

pub front_6 : (out octets : List ℕ) {o1 o2 o3 o4 o5 o6 after : List ℕ} {d0 d1 d2 : ℕ}
    → o1 ≡ out ++ decimal d0 → o2 ≡ o1 ++ 46 ∷ [] → o3 ≡ o2 ++ decimal d1 → o4 ≡ o3 ++ 46 ∷ [] → o5 ≡ o4 ++ decimal d2 → o6 ≡ o5 ++ 46 ∷ [] → after ≡ o6
    → d0 ≡ get_or octets 0 0 → d1 ≡ get_or octets 1 0 → d2 ≡ get_or octets 2 0 → length octets ≡ 4 → AppendsFront out (dotted octets) after
front_6 out [] e1 e2 e3 e4 e5 e6 last f0 f1 f2 len = absurd (omega (arith, len))
front_6 out (a ∷ []) e1 e2 e3 e4 e5 e6 last f0 f1 f2 len = absurd (omega (arith, len))
front_6 out (a ∷ b ∷ []) e1 e2 e3 e4 e5 e6 last f0 f1 f2 len = absurd (omega (arith, len))
front_6 out (a ∷ b ∷ c ∷ []) e1 e2 e3 e4 e5 e6 last f0 f1 f2 len = absurd (omega (arith, len))
front_6 out (a ∷ b ∷ c ∷ d ∷ []) e1 e2 e3 e4 e5 e6 last f0 f1 f2 len = record {
  front = ((((decimal a ++ 46 ∷ []) ++ decimal b) ++ 46 ∷ []) ++ decimal c) ++ 46 ∷ [];
  rest = decimal d;
  cut = simp append_assoc;
  appended = rw (last, e6, e5, e4, e3, e2, e1, f0, f1, f2) (simp append_assoc);
}
front_6 out (a ∷ b ∷ c ∷ d ∷ x ∷ xs) e1 e2 e3 e4 e5 e6 last f0 f1 f2 len = absurd (omega (arith, len))

-- what follows in one list that is shown twice
pub tail_is : (xs : List (List ℕ)) (x y : List ℕ) (ps qs : List (List ℕ)) → xs ≡ x ∷ ps → xs ≡ y ∷ qs → ps ≡ qs
tail_is xs x y ps qs p q = cc

-- four numbers that a word is cut into are read as four bytes
pub reads_four : (word : List ℕ) (a b c d : ℕ) (r : Option (List ℕ))
    → MatchOption r (length (a ∷ b ∷ c ∷ d ∷ []) ≢ 4) (λ f. (f ≡ a ∷ b ∷ c ∷ d ∷ []) × (length (a ∷ b ∷ c ∷ d ∷ []) ≡ 4))
    → a < 256 → b < 256 → c < 256 → d < 256
    → pieces_of 46 word ≡ decimal a ∷ decimal b ∷ decimal c ∷ decimal d ∷ [] → Reads (IsOctets 4) dotted word r
reads_four word a b c d None m ha hb hc hd cut = absurd (m refl)
reads_four word a b c d (Some f) m ha hb hc hd cut =
    let bytes : AreBytes (a ∷ b ∷ c ∷ d ∷ []) = All-from_recursion (λ x. x < 256) (a ∷ b ∷ c ∷ d ∷ []) (ha, (hb, (hc, (hd, tt)))) in
    let Fit : List ℕ → Type 0 = λ v. IsOctets 4 v × (word ≡ dotted v) in
    subst Fit (sym m.0) ((refl, bytes), joined_again word a b c d cut)
