-- A section begins with the first block that is not refused.
use Rattle.std.proofs.Common.{◌≡◌, ◌≤◌, ℕ, Bool, true, false, List, [], ◌∷◌, ◌++◌, length, take, drop, None, Some, refl, sym, ap, ◌∙◌, subst, append_assoc, arith, length-take-le}
use Rattle.std.proofs.lemmas.Bool.{cond-true}
use Rattle.std.proofs.lemmas.List.{take-append-drop}
use Rattle.pcapng_io.specs.declared.sections.Section.{Section}
use Rattle.pcapng_io.specs.declared.frames.NgFrame.{NgFrame}
use Rattle.pcapng_io.specs.declared.faults.NgRefusal.{NgRefusal}
use Rattle.pcapng_io.specs.declared.kinds.BlockKind.{BlockKind}
use Rattle.pcapng_io.specs.declared.kinds.BlockKind.TheVariants as kinds
use Rattle.pcapng_io.specs.declared.blocks.Block.{Block}
use Rattle.pcapng_io.specs.Numbers.{word_at}
use Rattle.pcapng_io.specs.Kinds.{kind_of}
use Rattle.pcapng_io.specs.Sections.{start, is_header, kind_at, order_at, size_at, section_by, section_behind}
use Rattle.pcapng_io.specs.Refusals.{refusal_of, is_whole, block_at}
use Rattle.pcapng_io.specs.Files.{IsBlock, AreBlocks, section_after, bytes_of}
use Rattle.pcapng_io.specs.Steps.{Whole}
use Rattle.pcapng_io.specs.Kept.{Kept}
use Rattle.pcapng_io.specs.Streams.{Stands}
use Rattle.pcapng_io.specs.Reads.{BeginsNg}
use Rattle.pcapng_io.proofs.FrontLemmas.{some_none, first_header, header_front, opening_accepted}
use Rattle.pcapng_io.proofs.BlockLemmas.{block_there, front_whole, front_accepted}

begun_by : (kind : BlockKind) (section : Section) (big : Bool) (block : List ℕ) → section.begun ≡ true → (section_by kind section big block).begun ≡ true
begun_by kinds.Header section big block is = refl
begun_by kinds.Description section big block is = is
begun_by kinds.Enhanced section big block is = is
begun_by kinds.Simple section big block is = is
begun_by kinds.Other section big block is = is

begun_behind : (section : Section) (block : List ℕ) → section.begun ≡ true → (section_behind section block).begun ≡ true
unfolding section_behind
begun_behind section block is = begun_by (kind_at section block) section (order_at section.big block) block is

pub begun_after : (section : Section) (blocks : List (List ℕ)) → section.begun ≡ true → (section_after section blocks).begun ≡ true
begun_after section [] is = is
begun_after section (b ∷ bs) is = begun_after (section_behind section b) bs (begun_behind section b is)

pub first_begun : (section : Section) (block : List ℕ) → section.begun ≡ false → IsBlock section block → (section_behind section block).begun ≡ true
unfolding section_behind
first_begun section block fresh is =
    let some : 12 ≤ length block = is.some in
    let twelve = length-take-le 12 block some in
    let header : is_header block ≡ true =
    sym (header_front 12 block (omega arith) some) ∙ first_header section (take 12 block) (omega (arith, twelve)) fresh (opening_accepted section block is.accepted) in
    let kind : kind_at section block ≡ kinds.Header = cond-true (is_header block) kinds.Header (kind_of (word_at section.big 0 block)) header in
    ap (λ (k : BlockKind). (section_by k section (order_at section.big block) block).begun) kind

none_yet : (blocks : List (List ℕ)) → AreBlocks start blocks → (section_after start blocks).begun ≡ false → blocks ≡ []
none_yet [] each fresh = refl
none_yet (b ∷ bs) each fresh =
    let begun : (section_after (section_behind start b) bs).begun ≡ true = begun_after (section_behind start b) bs (first_begun start b refl each.0) in
    absurd (cc)

begins_of : (blocks : List (List ℕ)) (taken front rest : List ℕ) → AreBlocks start blocks → front ≡ bytes_of blocks → taken ≡ front ++ rest → (section_after start blocks).begun ≡ true → BeginsNg taken
begins_of [] taken front rest each all joined begun = absurd (cc)
begins_of (b ∷ bs) taken front rest each all joined begun = record {
  header = b;
  rest = bytes_of bs ++ rest;
  is = each.0;
  joined = joined ∙ ap (λ l. l ++ rest) all ∙ append_assoc b (bytes_of bs) rest;
}

pub begun_begins : (feed : Kept) (taken : List ℕ) (given : List NgFrame) → feed.section.begun ≡ true → Stands feed taken given → BeginsNg taken
begun_begins feed taken given begun s =
    begins_of s.part.blocks taken s.front feed.rest s.part.each s.part.all s.joined (ap (λ (x : Section). x.begun) (sym s.part.leaves) ∙ begun)

-- before the first block nothing is used
record IsFresh (feed : Kept) (taken : List ℕ) : Type 0 where
  pub section : feed.section ≡ start
  pub rest : taken ≡ feed.rest

fresh : (feed : Kept) (taken : List ℕ) (given : List NgFrame) → feed.section.begun ≡ false → Stands feed taken given → IsFresh feed taken
fresh feed taken given not_begun s =
    let none : s.part.blocks ≡ [] = none_yet s.part.blocks s.part.each (ap (λ (x : Section). x.begun) (sym s.part.leaves) ∙ not_begun) in
    record {
      section = s.part.leaves ∙ ap (section_after start) none;
      rest = s.joined ∙ ap (λ l. l ++ feed.rest) (s.part.all ∙ ap bytes_of none);
    }

pub whole_begins : (feed : Kept) (taken : List ℕ) (given : List NgFrame) (size : ℕ) (said : Block) → feed.section.begun ≡ false → Whole feed.section feed.rest size said → Stands feed taken given → BeginsNg taken
whole_begins feed taken given size said not_begun whole s =
    let at = fresh feed taken given not_begun s in
    record {
      header = block_at feed.section feed.rest;
      rest = drop (size_at feed.section feed.rest) feed.rest;
      is = subst (λ (x : Section). IsBlock x (block_at feed.section feed.rest)) at.section (block_there feed.section feed.rest whole.whole whole.accepted);
      joined = at.rest ∙ sym (take-append-drop (size_at feed.section feed.rest) feed.rest);
    }

-- and nothing begins where the first block is not whole, or refused
begins_whole : (feed : Kept) (taken : List ℕ) (given : List NgFrame) → feed.section.begun ≡ false → Stands feed taken given → BeginsNg taken → (is_whole feed.section feed.rest ≡ true) × (refusal_of feed.section feed.rest ≡ None)
begins_whole feed taken given not_begun s b =
    let at = fresh feed taken given not_begun s in
    let is : IsBlock feed.section b.header = subst (λ (x : Section). IsBlock x b.header) (sym at.section) b.is in
    let all : feed.rest ≡ b.header ++ b.rest = sym at.rest ∙ b.joined in
    (front_whole feed.section b.header b.rest feed.rest is all, front_accepted feed.section b.header b.rest feed.rest is all)

pub part_begins : (feed : Kept) (taken : List ℕ) (given : List NgFrame) → feed.section.begun ≡ false → is_whole feed.section feed.rest ≡ false → Stands feed taken given → BeginsNg taken → ⊥
part_begins feed taken given not_begun part s b =
    let whole : is_whole feed.section feed.rest ≡ true = (begins_whole feed taken given not_begun s b).0 in cc

pub refused_begins : (feed : Kept) (taken : List ℕ) (given : List NgFrame) (t : NgRefusal) → feed.section.begun ≡ false → refusal_of feed.section feed.rest ≡ Some t → Stands feed taken given → BeginsNg taken → ⊥
refused_begins feed taken given t not_begun bad s b = some_none _ t bad (begins_whole feed taken given not_begun s b).1
