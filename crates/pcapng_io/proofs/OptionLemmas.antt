-- The options of a list, one after the other.
use Rattle.std.proofs.Common.{◌≡◌, ◌≤◌, ◌<◌, ◌+◌, ◌-◌, ℕ, zero, suc, Bool, true, false, List, [], ◌∷◌, length, Option, None, Some, inl, inr, refl, sym, ap, ◌∙◌, find, arith}
use Rattle.std.specs.Option.{IfSome}
use Rattle.std.specs.Prelude.{not, nat_le, ◌==◌, if◌then◌else◌}
use Rattle.std.proofs.lemmas.Bool.{cases_Bool, cond-true, cond-false, and_parts, leb-true, eqb-true}
use Rattle.pcapng_io.specs.declared.interface_options.OptionAt.{OptionAt}
use Rattle.pcapng_io.specs.declared.interface_options.Wanted.TheVariants as wanted
use Rattle.pcapng_io.specs.Options.{padded, option_at, behind, is_end, options_from, options_of, is_good_option, is_wanted, first_option}

pub options_end : (left : ℕ) (big : Bool) (at : ℕ) (block : List ℕ) → is_end big at block ≡ true → options_from left big at block ≡ []
unfolding options_from
options_end zero big at block is = refl
options_end (suc left) big at block is = cond-true (is_end big at block) _ _ is

pub options_next : (left : ℕ) (big : Bool) (at : ℕ) (block : List ℕ) → 0 < left → is_end big at block ≡ false
    → options_from left big at block ≡ option_at big at block ∷ options_from (left - 1) big (behind (option_at big at block)) block
unfolding options_from
options_next zero big at block some goes_on = absurd (omega (arith, some))
options_next (suc left) big at block some goes_on =
    cond-false (is_end big at block) _ _ goes_on
    ∙ ap (λ n. option_at big at block ∷ options_from n big (behind (option_at big at block)) block) (let e : left ≡ suc left - 1 = omega arith in e)

-- the first of them that is looked for
pub find_end : (p : OptionAt → Bool) (left : ℕ) (big : Bool) (at : ℕ) (block : List ℕ) → is_end big at block ≡ true → find p (options_from left big at block) ≡ None
find_end p left big at block is = ap (find p) (options_end left big at block is)

pub find_here : (p : OptionAt → Bool) (left : ℕ) (big : Bool) (at : ℕ) (block : List ℕ) → 0 < left → is_end big at block ≡ false → p (option_at big at block) ≡ true
    → find p (options_from left big at block) ≡ Some (option_at big at block)
find_here p left big at block some goes_on is = ap (find p) (options_next left big at block some goes_on) ∙ cond-true (p (option_at big at block)) _ _ is

pub find_later : (p : OptionAt → Bool) (left : ℕ) (big : Bool) (at : ℕ) (block : List ℕ) → 0 < left → is_end big at block ≡ false → p (option_at big at block) ≡ false
    → find p (options_from left big at block) ≡ find p (options_from (left - 1) big (behind (option_at big at block)) block)
find_later p left big at block some goes_on other = ap (find p) (options_next left big at block some goes_on) ∙ cond-false (p (option_at big at block)) _ _ other

-- what is found among options of which none is wanted otherwise is not wanted otherwise
find_both : (p q : OptionAt → Bool) (options : List OptionAt) (o : OptionAt) → find p options ≡ None → find q options ≡ Some o → (p o ≡ false) × (q o ≡ true)
find_both p q [] o none some = absurd (cc)
find_both p q (x ∷ xs) o none some =
    elim (cases_Bool (p x)) [
      | inl is ↦ let found : Some x ≡ None = sym (cond-true (p x) _ _ is) ∙ none in absurd (cc)
      | inr other ↦
          elim (cases_Bool (q x)) [
            | inl here ↦
                let same : Some x ≡ Some o = sym (cond-true (q x) _ _ here) ∙ some in
                let e : x ≡ o = cc in
                (ap p (sym e) ∙ other, ap q (sym e) ∙ here)
            | inr later ↦ find_both p q xs o (sym (cond-false (p x) _ _ other) ∙ none) (sym (cond-false (q x) _ _ later) ∙ some)
          ]
    ]

good_from_not : (b : Bool) → not b ≡ false → b ≡ true
good_from_not true is = refl
good_from_not false is = absurd (cc)

-- an offset that is not refused has its 8 bytes in the block
pub offset_there : (big : Bool) (block : List ℕ) (o : OptionAt) → 4 ≤ length block → first_option wanted.Refused big block ≡ None → first_option (wanted.Code 14) big block ≡ Some o → o.at + 12 ≤ length block
offset_there big block o long none some =
    let both = find_both (is_wanted wanted.Refused (length block)) (is_wanted (wanted.Code 14) (length block)) (options_of big block) o none some in
    let good : is_good_option (length block) o ≡ true = good_from_not (is_good_option (length block) o) both.0 in
    let code : o.code ≡ 14 = eqb-true o.code 14 both.1 in
    let parts = and_parts (nat_le (behind o) (length block - 4)) (if o.code == 9 then o.size == 1 else (if o.code == 14 then o.size == 8 else nat_le 0 o.size)) good in
    let within = leb-true (behind o) (length block - 4) parts.0 in
    let eight : (if 14 == 9 then o.size == 1 else (if 14 == 14 then o.size == 8 else nat_le 0 o.size)) ≡ true =
    ap (λ c. if c == 9 then o.size == 1 else (if c == 14 then o.size == 8 else nat_le 0 o.size)) (sym code) ∙ parts.1 in
    let size : o.size ≡ 8 = eqb-true o.size 8 eight in
    let behind_is : behind o ≡ o.at + 4 + 8 = ap (λ n. o.at + 4 + padded n) size in
    omega (arith, within, behind_is, long)

pub offset_if : (big : Bool) (block : List ℕ) (found : Option OptionAt) → 4 ≤ length block → first_option wanted.Refused big block ≡ None → found ≡ first_option (wanted.Code 14) big block → IfSome found (λ o. o.at + 12 ≤ length block)
offset_if big block None long none is = tt
offset_if big block (Some o) long none is = offset_there big block o long none (sym is)
