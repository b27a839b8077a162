-- What the first bytes and a whole block show, as what the bytes at hand begin with.
use Rattle.std.proofs.Common.{◌≡◌, ◌≤◌, ◌<◌, ℕ, Bool, true, false, List, length, take, Option, None, sym, ap, ◌∙◌, subst, inl, inr, arith, length-take-le}
use Rattle.std.specs.Prelude.{nat_le}
use Rattle.std.proofs.lemmas.Bool.{and_left, and_right, cases_Bool, leb-true}
use Rattle.std.proofs.lemmas.List.{length-take}
use Rattle.pcapng_io.specs.declared.faults.NgReason.{NgReason}
use Rattle.pcapng_io.specs.declared.faults.NgRefusal.{NgRefusal}
use Rattle.pcapng_io.specs.declared.sections.Section.{Section}
use Rattle.pcapng_io.specs.declared.kinds.BlockKind.{BlockKind}
use Rattle.pcapng_io.specs.declared.openings.Opening.TheVariants as openings
use Rattle.pcapng_io.specs.declared.blocks.Block.{Block}
use Rattle.pcapng_io.specs.declared.blocks.Judged.TheVariants as judged
use Rattle.pcapng_io.specs.declared.blocks.BlockStep.TheVariants as steps
use Rattle.pcapng_io.specs.Kinds.{is_length}
use Rattle.pcapng_io.specs.Sections.{order_at, size_at, kind_at, frame_by, section_by, frame_of, section_behind}
use Rattle.pcapng_io.specs.Refusals.{told, opening, fields_by, first_bad, block_at, block_refusal, is_whole, or_then, refusal_of}
use Rattle.pcapng_io.specs.Steps.{OpeningGives, Says, JudgedAs, StepGives}
use Rattle.pcapng_io.proofs.FrontLemmas.{Sized, length_sized, order_front, size_front, kind_front, refusal_whole, refusal_part, some_refused, there_whole}

-- ---- fewer bytes than a block

not_le : (m n : ℕ) → n < m → nat_le m n ≡ false
not_le m n less = elim (cases_Bool (nat_le m n)) [ inl is ↦ let le = leb-true m n is in absurd (omega (arith, le, less)) | inr bad ↦ bad ]

part_few : (section : Section) (bytes : List ℕ) → length bytes < 12 → is_whole section bytes ≡ false
part_few section bytes few = and_left (nat_le 12 (length bytes)) (nat_le (size_at section bytes) (length bytes)) (not_le 12 (length bytes) few)

part_short : (section : Section) (bytes : List ℕ) → length bytes < size_at section bytes → is_whole section bytes ≡ false
part_short section bytes few = and_right (nat_le 12 (length bytes)) (nat_le (size_at section bytes) (length bytes)) (not_le (size_at section bytes) (length bytes) few)

accepted_part : (section : Section) (bytes : List ℕ) → opening section (take 12 bytes) ≡ None → is_whole section bytes ≡ false → refusal_of section bytes ≡ None
accepted_part section bytes none part = refusal_part section bytes part ∙ ap (λ (o : Option NgRefusal). or_then o None) none

-- the first bytes wait for more
pub step_waits : (section : Section) (bytes front : List ℕ) → front ≡ take 12 bytes → OpeningGives section front openings.Wait → StepGives section bytes steps.Wait
step_waits section bytes front is gives =
    let few : length bytes < 12 = let h = gives.1 in omega (arith, h, ap length is, length-take 12 bytes) in
    let part = part_few section bytes few in
    (accepted_part section bytes (ap (opening section) (sym is) ∙ gives.0) part, part, omega (arith, few))

pub step_refused : (section : Section) (bytes front : List ℕ) (at : ℕ) (reason : NgReason) → front ≡ take 12 bytes → OpeningGives section front (openings.Refused at reason) → StepGives section bytes (steps.Refused at reason)
step_refused section bytes front at reason is gives =
    let there = gives.1 in
    (some_refused section bytes (told at reason) (ap (opening section) (sym is) ∙ gives.0), omega (arith, there, ap length is, length-take 12 bytes))

-- ---- the first bytes show a block

pub record Opened (section : Section) (bytes : List ℕ) (kind : BlockKind) (big : Bool) (size : ℕ) : Type 0 where
  pub accepted : opening section (take 12 bytes) ≡ None
  pub there : 12 ≤ length bytes
  pub kind_is : kind_at section bytes ≡ kind
  pub order_is : order_at section.big bytes ≡ big
  pub size_is : size_at section bytes ≡ size
  pub long : is_length kind size ≡ true
  pub sized : Sized size

pub opened : (section : Section) (bytes front : List ℕ) (kind : BlockKind) (big : Bool) (size : ℕ) → front ≡ take 12 bytes → OpeningGives section front (openings.Block kind big size) → Opened section bytes kind big size
opened section bytes front kind big size is gives =
    let at : OpeningGives section (take 12 bytes) (openings.Block kind big size) = subst (λ (l : List ℕ). OpeningGives section l (openings.Block kind big size)) is gives in
    let twelve = at.1 in
    let there : 12 ≤ length bytes = omega (arith, twelve, length-take 12 bytes) in
    let kind_same : kind_at section bytes ≡ kind = sym (kind_front section 12 bytes (omega arith) there) ∙ sym at.2 in
    let order_same : order_at section.big bytes ≡ big = sym (order_front section.big 12 bytes (omega arith) there) ∙ sym at.3 in
    let long : is_length kind size ≡ true = ap (λ (k : BlockKind). is_length k size) at.2 ∙ at.5 in
    record {
      accepted = at.0;
      there = there;
      kind_is = kind_same;
      order_is = order_same;
      size_is = sym (size_front section 12 bytes (omega arith) there) ∙ sym at.4;
      long = long;
      sized = length_sized kind size long;
    }

pub step_short : (section : Section) (bytes : List ℕ) (kind : BlockKind) (big : Bool) (size : ℕ) → Opened section bytes kind big size → length bytes < size → StepGives section bytes steps.Wait
step_short section bytes kind big size o short =
    let same = o.size_is in
    let most = o.sized.most in
    let part = part_short section bytes (omega (arith, short, same)) in
    (accepted_part section bytes o.accepted part, part, omega (arith, short, most))

-- ---- and all of it is there

opened_whole : (section : Section) (bytes : List ℕ) (kind : BlockKind) (big : Bool) (size : ℕ) → Opened section bytes kind big size → size ≤ length bytes → is_whole section bytes ≡ true
opened_whole section bytes kind big size o there = let same = o.size_is in there_whole section bytes o.there (omega (arith, there, same))

-- what is refused of the block is what is refused of the bytes
opened_refusal : (section : Section) (bytes : List ℕ) (kind : BlockKind) (big : Bool) (size : ℕ) → Opened section bytes kind big size → size ≤ length bytes → refusal_of section bytes ≡ first_bad (fields_by kind section big (take size bytes))
unfolding block_refusal
opened_refusal section bytes kind big size o there =
    let block : List ℕ = take size bytes in
    let kind_same : kind_at section block ≡ kind = kind_front section size bytes o.sized.some there ∙ o.kind_is in
    let order_same : order_at section.big block ≡ big = order_front section.big size bytes o.sized.some there ∙ o.order_is in
    refusal_whole section bytes (opened_whole section bytes kind big size o there)
    ∙ ap (λ (r : Option NgRefusal). or_then r (block_refusal section (block_at section bytes))) o.accepted
    ∙ ap (λ n. block_refusal section (take n bytes)) o.size_is
    ∙ ap (λ (k : BlockKind). first_bad (fields_by k section (order_at section.big block) block)) kind_same
    ∙ ap (λ (b : Bool). first_bad (fields_by kind section b block)) order_same

pub step_bad : (section : Section) (bytes : List ℕ) (kind : BlockKind) (big : Bool) (size at : ℕ) (reason : NgReason) → Opened section bytes kind big size → size ≤ length bytes → JudgedAs kind section big (take size bytes) (judged.Refused at reason) → StepGives section bytes (steps.Refused at reason)
step_bad section bytes kind big size at reason o there bad =
    let within = bad.1 in
    (opened_refusal section bytes kind big size o there ∙ bad.0, omega (arith, within, there, length-take-le size bytes there))

says_of : (section : Section) (bytes : List ℕ) (kind : BlockKind) (big : Bool) (size : ℕ) (said : Block) → Opened section bytes kind big size → size ≤ length bytes → Says section said (take size bytes) (frame_by kind section big (take size bytes)) (section_by kind section big (take size bytes))
    → Says section said (take size bytes) (frame_of section (take size bytes)) (section_behind section (take size bytes))
unfolding frame_of section_behind
says_of section bytes kind big size said o there says =
    let block : List ℕ = take size bytes in
    let kind_same : kind_at section block ≡ kind = kind_front section size bytes o.sized.some there ∙ o.kind_is in
    let order_same : order_at section.big block ≡ big = order_front section.big size bytes o.sized.some there ∙ o.order_is in
    subst (λ (k : BlockKind). Says section said block (frame_by k section (order_at section.big block) block) (section_by k section (order_at section.big block) block)) (sym kind_same)
    (subst (λ (b : Bool). Says section said block (frame_by kind section b block) (section_by kind section b block)) (sym order_same) says)

pub step_whole : (section : Section) (bytes : List ℕ) (kind : BlockKind) (big : Bool) (size : ℕ) (said : Block) → Opened section bytes kind big size → size ≤ length bytes → JudgedAs kind section big (take size bytes) (judged.Good said) → StepGives section bytes (steps.Whole size said)
step_whole section bytes kind big size said o there good = record {
  accepted = opened_refusal section bytes kind big size o there ∙ good.0;
  whole = opened_whole section bytes kind big size o there;
  size_is = sym o.size_is;
  some = o.sized.some;
  there = there;
  says = says_of section bytes kind big size said o there good.1;
}

pub long_block : (section : Section) (bytes : List ℕ) (kind : BlockKind) (big : Bool) (size : ℕ) → Opened section bytes kind big size → size ≤ length bytes → is_length kind (length (take size bytes)) ≡ true
long_block section bytes kind big size o there = ap (is_length kind) (length-take-le size bytes there) ∙ o.long
