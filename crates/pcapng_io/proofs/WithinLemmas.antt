-- The frames of whole blocks are within the limits.
use Rattle.std.proofs.Common.{◌≡◌, ◌≤◌, ◌<◌, ◌+◌, ◌-◌, ◌*◌, ◌%◌, ◌^◌, ℕ, Bool, true, List, [], ◌∷◌, ◌++◌, length, take, drop, None, sym, ap, ◌∙◌, subst, inl, inr, arith, length-take-le, length-drop}
use Rattle.std.specs.Prelude.{nat_lt, nat_le, ◌==◌, min}
use Rattle.std.specs.List.{AllByRecursion}
use Rattle.std.proofs.Math.Nat.{one-le-pow}
use Rattle.std.proofs.lemmas.Bool.{cases_Bool, cond-true, cond-false, and_parts, leb-true}
use Rattle.std.proofs.lemmas.List.{take_all}
use Rattle.std.proofs.lemmas.Nat.{div_below, mod_below}
use Rattle.pcapng_io.specs.declared.sections.Section.{Section}
use Rattle.pcapng_io.specs.declared.frames.NgFrame.{NgFrame}
use Rattle.pcapng_io.specs.declared.kinds.BlockKind.{BlockKind}
use Rattle.pcapng_io.specs.declared.kinds.BlockKind.TheVariants as kinds
use Rattle.pcapng_io.specs.Numbers.{word_at}
use Rattle.pcapng_io.specs.Times.{per_second, counts_back, moved_by, is_time, nanos_of}
use Rattle.pcapng_io.specs.Sections.{start, kind_at, order_at, size_at, interface_at, interface_of, ticks_at, whole_at, simple_captured, enhanced_frame, simple_frame, frame_by, frame_of, section_behind}
use Rattle.pcapng_io.specs.Refusals.{first_bad, fields_by, block_refusal, block_at}
use Rattle.pcapng_io.specs.Files.{IsBlock, AreBlocks, frames_after, given_by, IsPart, IsWithin}
use Rattle.pcapng_io.proofs.FieldLemmas.{none_good}
use Rattle.pcapng_io.proofs.FrontLemmas.{block_accepted}
use Rattle.pcapng_io.proofs.BlockLemmas.{block_whole}

-- ---- times

pub per_some : (r : ℕ) → 0 < per_second r
per_some r =
    elim (cases_Bool (nat_lt r 128)) [
      | inl ten ↦ let h = one-le-pow r 10 (omega arith) in omega (arith, h, cond-true (nat_lt r 128) (10 ^ r) (2 ^ (r - 128)) ten)
      | inr two ↦ let h = one-le-pow (r - 128) 2 (omega arith) in omega (arith, h, cond-false (nat_lt r 128) (10 ^ r) (2 ^ (r - 128)) two)
    ]

nanos_below : (r ticks : ℕ) → nanos_of r ticks < 1000000000
nanos_below r ticks =
    let some = per_some r in
    let part = mod_below ticks (per_second r) some in
    div_below (ticks % per_second r * 1000000000) (per_second r) 1000000000 some (less (ticks % per_second r) (per_second r) part)
  where
    less : (x p : ℕ) → x < p → x * 1000000000 < 1000000000 * p
    less x p below = omega (arith, below)

seconds_most : (offset whole : ℕ) → is_time offset whole ≡ true → moved_by offset whole ≤ 4294967295
seconds_most offset whole is =
    elim (cases_Bool (counts_back offset)) [
      | inl back ↦
          let both = and_parts (nat_le (2 ^ 64 - offset) whole) (nat_le (whole - (2 ^ 64 - offset)) 4294967295) (sym (cond-true (counts_back offset) _ _ back) ∙ is) in
          let most = leb-true (whole - (2 ^ 64 - offset)) 4294967295 both.1 in
          let e : moved_by offset whole ≡ whole - (2 ^ 64 - offset) = cond-true (counts_back offset) _ _ back in
          omega (arith, most, e)
      | inr on ↦
          let most = leb-true (whole + offset) 4294967295 (sym (cond-false (counts_back offset) _ _ on) ∙ is) in
          let e : moved_by offset whole ≡ whole + offset = cond-false (counts_back offset) _ _ on in
          omega (arith, most, e)
    ]

-- ---- packets

body_length : (block : List ℕ) (from captured over : ℕ) → from ≤ over → captured + over ≤ length block → length (take captured (drop from block)) ≡ captured
body_length block from captured over le there = length-take-le captured (drop from block) (omega (arith, le, there, length-drop from block))

enhanced_within : (section : Section) (big : Bool) (block : List ℕ) → first_bad (fields_by kinds.Enhanced section big block) ≡ None → IsWithin (enhanced_frame section big block)
enhanced_within section big block none =
    let good = none_good (fields_by kinds.Enhanced section big block) none in
    let lengths = good.1.1 in
    let originals = good.1.1.1 in
    let times = good.1.1.1.1 in
    let captured : ℕ = word_at big 20 block in
    let both = and_parts (nat_le captured 262144) (nat_le (captured + 32) (length block)) lengths.0 in
    let two = and_parts (nat_le captured (word_at big 24 block)) (nat_le (word_at big 24 block) 2147483647) originals.0 in
    let len : length (take captured (drop 28 block)) ≡ captured = body_length block 28 captured 32 (omega arith) (leb-true (captured + 32) (length block) both.1) in
    let most = leb-true captured 262144 both.0 in
    let whole = leb-true captured (word_at big 24 block) two.0 in
    record {
      seconds = seconds_most (interface_of section big block).offset (whole_at section big block) times.0;
      nanos = nanos_below (interface_of section big block).resolution (ticks_at big block);
      captured = omega (arith, most, len);
      whole = omega (arith, whole, len);
      original = leb-true (word_at big 24 block) 2147483647 two.1;
    }

captured_most : (section : Section) (big : Bool) (block : List ℕ) → simple_captured section big block ≤ word_at big 8 block
captured_most section big block =
    elim (cases_Bool ((interface_at section 0).snapshot == 0)) [
      | inl free ↦ let e : simple_captured section big block ≡ word_at big 8 block = cond-true ((interface_at section 0).snapshot == 0) _ _ free in omega (arith, e)
      | inr cut ↦ let e : simple_captured section big block ≡ min (word_at big 8 block) (interface_at section 0).snapshot = cond-false ((interface_at section 0).snapshot == 0) _ _ cut in omega (arith, e)
    ]

simple_within : (section : Section) (big : Bool) (block : List ℕ) → first_bad (fields_by kinds.Simple section big block) ≡ None → IsWithin (simple_frame section big block)
simple_within section big block none =
    let good = none_good (fields_by kinds.Simple section big block) none in
    let lengths = good.1.1 in
    let originals = good.1.1.1 in
    let captured : ℕ = simple_captured section big block in
    let both = and_parts (nat_le captured 262144) (nat_le (captured + 16) (length block)) lengths.0 in
    let len : length (take captured (drop 12 block)) ≡ captured = body_length block 12 captured 16 (omega arith) (leb-true (captured + 16) (length block) both.1) in
    let most = leb-true captured 262144 both.0 in
    let whole = captured_most section big block in
    record {
      seconds = omega arith;
      nanos = omega arith;
      captured = omega (arith, most, len);
      whole = omega (arith, whole, len);
      original = leb-true (word_at big 8 block) 2147483647 originals.0;
    }

within_by : (kind : BlockKind) (section : Section) (big : Bool) (block : List ℕ) → first_bad (fields_by kind section big block) ≡ None → AllByRecursion IsWithin (given_by (frame_by kind section big block))
within_by kinds.Header section big block none = tt
within_by kinds.Description section big block none = tt
within_by kinds.Enhanced section big block none = (enhanced_within section big block none, tt)
within_by kinds.Simple section big block none = (simple_within section big block none, tt)
within_by kinds.Other section big block none = tt

-- ---- blocks

block_fields : (section : Section) (block : List ℕ) → IsBlock section block → first_bad (fields_by (kind_at section block) section (order_at section.big block) block) ≡ None
unfolding block_refusal
block_fields section block is =
    let whole = is.whole in
    let all : block_at section block ≡ block = take_all (size_at section block) block (omega (arith, whole)) in
    sym (ap (λ (b : List ℕ). first_bad (fields_by (kind_at section b) section (order_at section.big b) b)) all) ∙ block_accepted section block (block_whole section block is) is.accepted

block_within : (section : Section) (block : List ℕ) → IsBlock section block → AllByRecursion IsWithin (given_by (frame_of section block))
unfolding frame_of
block_within section block is = within_by (kind_at section block) section (order_at section.big block) block (block_fields section block is)

all_append : (xs ys : List NgFrame) → AllByRecursion IsWithin xs → AllByRecursion IsWithin ys → AllByRecursion IsWithin (xs ++ ys)
all_append [] ys ax ay = ay
all_append (x ∷ xs) ys ax ay = (ax.0, all_append xs ys ax.1 ay)

blocks_within : (section : Section) (blocks : List (List ℕ)) → AreBlocks section blocks → AllByRecursion IsWithin (frames_after section blocks)
blocks_within section [] each = tt
blocks_within section (b ∷ bs) each = all_append (given_by (frame_of section b)) (frames_after (section_behind section b) bs) (block_within section b each.0) (blocks_within (section_behind section b) bs each.1)

pub part_within : (bytes : List ℕ) (section : Section) (frames : List NgFrame) → IsPart bytes section frames → AllByRecursion IsWithin frames
part_within bytes section frames part = subst (AllByRecursion IsWithin) (sym part.gives) (blocks_within start part.blocks part.each)
