-- What the first bytes show of a block, and that more bytes behind them change nothing of it.
use Rattle.std.proofs.Common.{◌≡◌, ◌≤◌, ◌<◌, ◌-◌, ℕ, zero, suc, Bool, true, false, List, [], ◌∷◌, ◌++◌, length, take, drop, Option, None, Some, refl, sym, ap, ◌∙◌, subst, inl, inr, arith, length-take-le}
use Rattle.std.specs.Prelude.{nat_lt, nat_le, ◌==◌, ◌%◌, ◌&&◌, ◌||◌, if◌then◌else◌}
use Rattle.std.proofs.lemmas.Bool.{cases_Bool, cases_lt, cond-true, cond-false, lt-ltb, le-ltb, le-leb, leb-true, and_parts, and_from}
use Rattle.std.proofs.lemmas.List.{length-append, take-append-le, take-append-drop, take_all}
use Rattle.pcapng_io.specs.declared.faults.NgReason.TheVariants as reasons
use Rattle.pcapng_io.specs.declared.faults.NgRefusal.{NgRefusal}
use Rattle.pcapng_io.specs.declared.kinds.BlockKind.{BlockKind}
use Rattle.pcapng_io.specs.declared.kinds.BlockKind.TheVariants as kinds
use Rattle.pcapng_io.specs.declared.sections.Section.{Section}
use Rattle.pcapng_io.specs.Numbers.{word_at}
use Rattle.pcapng_io.specs.Kinds.{kind_of, least, is_length}
use Rattle.pcapng_io.specs.Sections.{is_header, has_mark, order_at, size_at, kind_at}
use Rattle.pcapng_io.specs.Refusals.{told, length_refusal, header_opening, opening, is_whole, block_at, block_refusal, or_then, refusal_of}
use Rattle.pcapng_io.proofs.NumberLemmas.{word_more, word_front}

pub some_none : (o : Option NgRefusal) (r : NgRefusal) → o ≡ Some r → o ≡ None → ⊥
some_none o r is none = cc

-- ---- more bytes behind

header_more : (bytes more : List ℕ) → 4 ≤ length bytes → is_header (bytes ++ more) ≡ is_header bytes
header_more bytes more there = ap (λ n. n == 0x0A0D0D0A) (word_more true 0 bytes more there)

mark_more : (big : Bool) (bytes more : List ℕ) → 12 ≤ length bytes → has_mark big (bytes ++ more) ≡ has_mark big bytes
mark_more big bytes more there = ap (λ n. n == 0x1A2B3C4D) (word_more big 8 bytes more there)

pub order_more : (big : Bool) (bytes more : List ℕ) → 12 ≤ length bytes → order_at big (bytes ++ more) ≡ order_at big bytes
order_more big bytes more there =
    ap (λ (h : Bool). if h then has_mark true (bytes ++ more) else big) (header_more bytes more (omega (arith, there)))
    ∙ ap (λ (m : Bool). if is_header bytes then m else big) (mark_more true bytes more there)

pub size_more : (section : Section) (bytes more : List ℕ) → 12 ≤ length bytes → size_at section (bytes ++ more) ≡ size_at section bytes
size_more section bytes more there =
    ap (λ (o : Bool). word_at o 4 (bytes ++ more)) (order_more section.big bytes more there) ∙ word_more (order_at section.big bytes) 4 bytes more (omega (arith, there))

-- the order is that of the first bytes
pub order_front : (big : Bool) (n : ℕ) (bytes : List ℕ) → 12 ≤ n → n ≤ length bytes → order_at big (take n bytes) ≡ order_at big bytes
order_front big n bytes some there =
    sym (order_more big (take n bytes) (drop n bytes) (omega (arith, some, length-take-le n bytes there))) ∙ ap (order_at big) (take-append-drop n bytes)

pub size_front : (section : Section) (n : ℕ) (bytes : List ℕ) → 12 ≤ n → n ≤ length bytes → size_at section (take n bytes) ≡ size_at section bytes
size_front section n bytes some there =
    sym (size_more section (take n bytes) (drop n bytes) (omega (arith, some, length-take-le n bytes there))) ∙ ap (size_at section) (take-append-drop n bytes)

pub kind_front : (section : Section) (n : ℕ) (bytes : List ℕ) → 12 ≤ n → n ≤ length bytes → kind_at section (take n bytes) ≡ kind_at section bytes
kind_front section n bytes some there =
    let long : 4 ≤ length (take n bytes) = omega (arith, some, length-take-le n bytes there) in
    let header : is_header (take n bytes) ≡ is_header bytes = sym (header_more (take n bytes) (drop n bytes) long) ∙ ap is_header (take-append-drop n bytes) in
    ap (λ (h : Bool). if h then kinds.Header else kind_of (word_at section.big 0 (take n bytes))) header
    ∙ ap (λ w. if is_header bytes then kinds.Header else kind_of w) (word_front section.big 0 n bytes (omega (arith, some)) there)

length_more : (kind : BlockKind) (big : Bool) (front more : List ℕ) → 8 ≤ length front → length_refusal kind big (front ++ more) ≡ length_refusal kind big front
length_more kind big front more there = ap (λ n. if is_length kind n then None else Some (told 4 reasons.Block)) (word_more big 4 front more there)

-- what is refused of a block that is no header
abbrev other_length : Section → List ℕ → Option NgRefusal
other_length section front = length_refusal (kind_of (word_at section.big 0 front)) section.big front

other_more : (section : Section) (front more : List ℕ) → 8 ≤ length front → other_length section (front ++ more) ≡ other_length section front
other_more section front more there =
    ap (λ n. length_refusal (kind_of n) section.big (front ++ more)) (word_more section.big 0 front more (omega (arith, there)))
    ∙ length_more (kind_of (word_at section.big 0 front)) section.big front more there

-- ---- the opening, by its cases

opening_none : (section : Section) (front : List ℕ) → length front < 4 → opening section front ≡ None
opening_none section front short = cond-true (nat_lt (length front) 4) _ _ (lt-ltb (length front) 4 short)

opening_header : (section : Section) (front : List ℕ) → 4 ≤ length front → is_header front ≡ true → opening section front ≡ (if nat_lt (length front) 12 then None else header_opening front)
opening_header section front there is = cond-false (nat_lt (length front) 4) _ _ (le-ltb (length front) 4 there) ∙ cond-true (is_header front) _ _ is

opening_other : (section : Section) (front : List ℕ) → 4 ≤ length front → is_header front ≡ false
    → opening section front ≡ (if section.begun then (if nat_lt (length front) 8 then None else other_length section front) else Some (told 0 reasons.Magic))
opening_other section front there not = cond-false (nat_lt (length front) 4) _ _ (le-ltb (length front) 4 there) ∙ cond-false (is_header front) _ _ not

opening_fresh : (section : Section) (front : List ℕ) → 4 ≤ length front → is_header front ≡ false → section.begun ≡ false → opening section front ≡ Some (told 0 reasons.Magic)
opening_fresh section front there not fresh = opening_other section front there not ∙ cond-false section.begun _ _ fresh

opening_begun : (section : Section) (front : List ℕ) → 4 ≤ length front → is_header front ≡ false → section.begun ≡ true → opening section front ≡ (if nat_lt (length front) 8 then None else other_length section front)
opening_begun section front there not begun = opening_other section front there not ∙ cond-true section.begun _ _ begun

longer : (front more : List ℕ) (n : ℕ) → n ≤ length front → n ≤ length (front ++ more)
longer front more n there = omega (arith, there, length-append front more)

-- what is refused of fewer than 12 bytes
short_other : (section : Section) (front more : List ℕ) (t : NgRefusal) → 4 ≤ length front → is_header front ≡ false → opening section front ≡ Some t → opening section (front ++ more) ≡ Some t
short_other section front more t there not bad =
    let not' : is_header (front ++ more) ≡ false = header_more front more there ∙ not in
    let there' : 4 ≤ length (front ++ more) = longer front more 4 there in
    elim (cases_Bool section.begun) [
      | inr fresh ↦ opening_fresh section (front ++ more) there' not' fresh ∙ sym (opening_fresh section front there not fresh) ∙ bad
      | inl begun ↦
          elim (cases_lt (length front) 8) [
            | inl short ↦ absurd (some_none _ t bad (opening_begun section front there not begun ∙ cond-true (nat_lt (length front) 8) _ _ (lt-ltb (length front) 8 short)))
            | inr eight ↦
                opening_begun section (front ++ more) there' not' begun
                ∙ cond-false (nat_lt (length (front ++ more)) 8) _ _ (le-ltb (length (front ++ more)) 8 (longer front more 8 eight))
                ∙ other_more section front more eight
                ∙ sym (opening_begun section front there not begun ∙ cond-false (nat_lt (length front) 8) _ _ (le-ltb (length front) 8 eight))
                ∙ bad
          ]
    ]

short_more : (section : Section) (front more : List ℕ) (t : NgRefusal) → length front < 12 → opening section front ≡ Some t → opening section (front ++ more) ≡ Some t
short_more section front more t short bad =
    elim (cases_lt (length front) 4) [
      | inl few ↦ absurd (some_none _ t bad (opening_none section front few))
      | inr there ↦
          elim (cases_Bool (is_header front)) [
            | inl is ↦ absurd (some_none _ t bad (opening_header section front there is ∙ cond-true (nat_lt (length front) 12) _ _ (lt-ltb (length front) 12 short)))
            | inr not ↦ short_other section front more t there not bad
          ]
    ]

front_more : (bytes more : List ℕ) → 12 ≤ length bytes → take 12 (bytes ++ more) ≡ take 12 bytes
front_more bytes more there = take-append-le 12 bytes more there

-- the first 12 bytes of more bytes, where there are fewer
front_longer : (n : ℕ) (bytes more : List ℕ) → length bytes ≤ n → take n (bytes ++ more) ≡ bytes ++ take (n - length bytes) more
front_longer n [] more few = ap (λ k. take k more) (let e : n ≡ n - 0 = omega arith in e)
front_longer zero (b ∷ bs) more few = absurd (omega (arith, few))
front_longer (suc n) (b ∷ bs) more few = ap (λ l. b ∷ l) (front_longer n bs more (omega (arith, few)) ∙ ap (λ k. bs ++ take k more) (let e : n - length bs ≡ suc n - suc (length bs) = omega arith in e))

opening_more : (section : Section) (bytes more : List ℕ) (t : NgRefusal) → opening section (take 12 bytes) ≡ Some t → opening section (take 12 (bytes ++ more)) ≡ Some t
opening_more section bytes more t bad =
    elim (cases_lt (length bytes) 12) [
      | inr there ↦ ap (opening section) (front_more bytes more there) ∙ bad
      | inl short ↦
          ap (opening section) (front_longer 12 bytes more (omega (arith, short)))
          ∙ short_more section bytes (take (12 - length bytes) more) t short (sym (ap (opening section) (take_all 12 bytes (omega (arith, short)))) ∙ bad)
    ]

-- ---- whole blocks

-- a whole block stands at the front
pub record IsThere (section : Section) (bytes : List ℕ) : Type 0 where
  pub some : 12 ≤ length bytes
  pub whole : size_at section bytes ≤ length bytes

pub whole_there : (section : Section) (bytes : List ℕ) → is_whole section bytes ≡ true → IsThere section bytes
whole_there section bytes is =
    let parts = and_parts (nat_le 12 (length bytes)) (nat_le (size_at section bytes) (length bytes)) is in
    record { some = leb-true 12 (length bytes) parts.0; whole = leb-true (size_at section bytes) (length bytes) parts.1 }

pub there_whole : (section : Section) (bytes : List ℕ) → 12 ≤ length bytes → size_at section bytes ≤ length bytes → is_whole section bytes ≡ true
there_whole section bytes some whole =
    and_from (nat_le 12 (length bytes)) (nat_le (size_at section bytes) (length bytes)) (le-leb 12 (length bytes) some) (le-leb (size_at section bytes) (length bytes) whole)

pub whole_more : (section : Section) (bytes more : List ℕ) → is_whole section bytes ≡ true → is_whole section (bytes ++ more) ≡ true
whole_more section bytes more is =
    let there = whole_there section bytes is in
    let some = there.some in
    let whole = there.whole in
    let size = size_more section bytes more some in
    let sum = length-append bytes more in
    there_whole section (bytes ++ more) (omega (arith, some, sum)) (omega (arith, whole, size, sum))

pub block_more : (section : Section) (bytes more : List ℕ) → is_whole section bytes ≡ true → block_at section (bytes ++ more) ≡ block_at section bytes
block_more section bytes more is =
    let there = whole_there section bytes is in
    ap (λ n. take n (bytes ++ more)) (size_more section bytes more there.some) ∙ take-append-le (size_at section bytes) bytes more there.whole

-- what is refused where a block is whole
pub refusal_whole : (section : Section) (bytes : List ℕ) → is_whole section bytes ≡ true → refusal_of section bytes ≡ or_then (opening section (take 12 bytes)) (block_refusal section (block_at section bytes))
unfolding refusal_of
refusal_whole section bytes is = ap (or_then (opening section (take 12 bytes))) (cond-true (is_whole section bytes) _ _ is)

pub refusal_part : (section : Section) (bytes : List ℕ) → is_whole section bytes ≡ false → refusal_of section bytes ≡ or_then (opening section (take 12 bytes)) None
unfolding refusal_of
refusal_part section bytes is = ap (or_then (opening section (take 12 bytes))) (cond-false (is_whole section bytes) _ _ is)

-- where a block is whole, bytes behind it change nothing
pub refusal_same : (section : Section) (bytes more : List ℕ) → is_whole section bytes ≡ true → refusal_of section (bytes ++ more) ≡ refusal_of section bytes
refusal_same section bytes more is =
    refusal_whole section (bytes ++ more) (whole_more section bytes more is)
    ∙ ap (λ f. or_then (opening section f) (block_refusal section (block_at section (bytes ++ more)))) (front_more bytes more (whole_there section bytes is).some)
    ∙ ap (λ b. or_then (opening section (take 12 bytes)) (block_refusal section b)) (block_more section bytes more is)
    ∙ sym (refusal_whole section bytes is)

or_some : (o later : Option NgRefusal) (t : NgRefusal) → o ≡ Some t → or_then o later ≡ Some t
or_some None later t is = cc
or_some (Some u) later t is = is

or_none : (o : Option NgRefusal) (t : NgRefusal) → or_then o None ≡ Some t → o ≡ Some t
or_none None t is = is
or_none (Some u) t is = is

pub some_refused : (section : Section) (bytes : List ℕ) (t : NgRefusal) → opening section (take 12 bytes) ≡ Some t → refusal_of section bytes ≡ Some t
unfolding refusal_of
some_refused section bytes t bad = or_some (opening section (take 12 bytes)) _ t bad

-- what is refused is refused with more behind it
pub refusal_more : (section : Section) (bytes more : List ℕ) (t : NgRefusal) → refusal_of section bytes ≡ Some t → refusal_of section (bytes ++ more) ≡ Some t
refusal_more section bytes more t bad =
    elim (cases_Bool (is_whole section bytes)) [
      | inl is ↦ refusal_same section bytes more is ∙ bad
      | inr part ↦
          some_refused section (bytes ++ more) t
          (opening_more section bytes more t (or_none (opening section (take 12 bytes)) t (sym (refusal_part section bytes part) ∙ bad)))
    ]

-- ---- how long a block is

least_some : (kind : BlockKind) → 12 ≤ least kind
least_some kinds.Header = omega arith
least_some kinds.Description = omega arith
least_some kinds.Enhanced = omega arith
least_some kinds.Simple = omega arith
least_some kinds.Other = omega arith

-- a length that a block may have
pub record Sized (size : ℕ) : Type 0 where
  pub some : 12 ≤ size
  pub most : size ≤ 1048576

pub length_sized : (kind : BlockKind) (size : ℕ) → is_length kind size ≡ true → Sized size
length_sized kind size is =
    let parts = and_parts (nat_le (least kind) size) (size % 4 == 0 && nat_le size 1048576) is in
    let low = leb-true (least kind) size parts.0 in
    let few = least_some kind in
    record { some = omega (arith, low, few); most = leb-true size 1048576 (and_parts (size % 4 == 0) (nat_le size 1048576) parts.1).1 }

length_good : (kind : BlockKind) (big : Bool) (front : List ℕ) → length_refusal kind big front ≡ None → is_length kind (word_at big 4 front) ≡ true
length_good kind big front none =
    elim (cases_Bool (is_length kind (word_at big 4 front))) [
      | inl is ↦ is
      | inr bad ↦ absurd (some_none _ _ (cond-false (is_length kind (word_at big 4 front)) _ _ bad) none)
    ]

header_good : (front : List ℕ) → header_opening front ≡ None → length_refusal kinds.Header (has_mark true front) front ≡ None
header_good front none =
    elim (cases_Bool (has_mark true front || has_mark false front)) [
      | inl is ↦ sym (cond-true (has_mark true front || has_mark false front) _ _ is) ∙ none
      | inr bad ↦ absurd (some_none _ _ (cond-false (has_mark true front || has_mark false front) _ _ bad) none)
    ]

-- where 12 bytes are not refused, the first length is one that the block may have
opening_good : (section : Section) (front : List ℕ) → 12 ≤ length front → opening section front ≡ None → is_length (kind_at section front) (size_at section front) ≡ true
opening_good section front there none =
    elim (cases_Bool (is_header front)) [
      | inl is ↦
          let order : order_at section.big front ≡ has_mark true front = cond-true (is_header front) (has_mark true front) section.big is in
          let kind : kind_at section front ≡ kinds.Header = cond-true (is_header front) kinds.Header _ is in
          ap (λ (k : BlockKind). is_length k (size_at section front)) kind ∙ ap (λ (o : Bool). is_length kinds.Header (word_at o 4 front)) order
          ∙ length_good kinds.Header (has_mark true front) front
          (header_good front (sym (opening_header section front (omega (arith, there)) is ∙ cond-false (nat_lt (length front) 12) _ _ (le-ltb (length front) 12 there)) ∙ none))
      | inr other ↦
          let order : order_at section.big front ≡ section.big = cond-false (is_header front) (has_mark true front) section.big other in
          let kind : kind_at section front ≡ kind_of (word_at section.big 0 front) = cond-false (is_header front) kinds.Header _ other in
          ap (λ (k : BlockKind). is_length k (size_at section front)) kind ∙ ap (λ (o : Bool). is_length (kind_of (word_at section.big 0 front)) (word_at o 4 front)) order
          ∙ length_good (kind_of (word_at section.big 0 front)) section.big front
          (elim (cases_Bool section.begun) [
            | inl begun ↦ sym (opening_begun section front (omega (arith, there)) other begun ∙ cond-false (nat_lt (length front) 8) _ _ (le-ltb (length front) 8 (omega (arith, there)))) ∙ none
            | inr fresh ↦ absurd (some_none _ _ (opening_fresh section front (omega (arith, there)) other fresh) none)
          ])
    ]

-- the first block of a file is a section header
pub first_header : (section : Section) (front : List ℕ) → 4 ≤ length front → section.begun ≡ false → opening section front ≡ None → is_header front ≡ true
first_header section front there fresh none =
    elim (cases_Bool (is_header front)) [
      | inl is ↦ is
      | inr other ↦ absurd (some_none _ _ (opening_fresh section front there other fresh) none)
    ]

pub header_front : (n : ℕ) (bytes : List ℕ) → 4 ≤ n → n ≤ length bytes → is_header (take n bytes) ≡ is_header bytes
header_front n bytes some there =
    sym (header_more (take n bytes) (drop n bytes) (omega (arith, some, length-take-le n bytes there))) ∙ ap is_header (take-append-drop n bytes)

or_then_none : (o later : Option NgRefusal) → or_then o later ≡ None → (o ≡ None) × (later ≡ None)
or_then_none None later none = (refl, none)
or_then_none (Some u) later none = absurd (cc)

pub opening_accepted : (section : Section) (bytes : List ℕ) → refusal_of section bytes ≡ None → opening section (take 12 bytes) ≡ None
unfolding refusal_of
opening_accepted section bytes none = (or_then_none (opening section (take 12 bytes)) _ none).0

pub block_accepted : (section : Section) (bytes : List ℕ) → is_whole section bytes ≡ true → refusal_of section bytes ≡ None → block_refusal section (block_at section bytes) ≡ None
block_accepted section bytes is none = (or_then_none (opening section (take 12 bytes)) _ (sym (refusal_whole section bytes is) ∙ none)).1

-- the length of a block that is not refused
pub size_is : (section : Section) (bytes : List ℕ) → 12 ≤ length bytes → refusal_of section bytes ≡ None → Sized (size_at section bytes)
size_is section bytes there none =
    let front : List ℕ = take 12 bytes in
    let twelve : length front ≡ 12 = length-take-le 12 bytes there in
    let good = opening_good section front (omega (arith, twelve)) (opening_accepted section bytes none) in
    subst Sized (size_front section 12 bytes (omega arith) there) (length_sized (kind_at section front) (size_at section front) good)
