-- What a feed stands for after each call.
use Rattle.std.proofs.Common.{◌≡◌, ◌≤◌, ◌+◌, ℕ, List, [], ◌++◌, length, take, drop, Option, None, Some, Ok, refl, sym, ap, ◌∙◌, subst, append_assoc, arith, length-take-le}
use Rattle.std.specs.Option.{option_map}
use Rattle.std.proofs.lemmas.List.{append-nil, length-append, take-append-drop}
use Rattle.pcapng_io.specs.declared.sections.Section.{Section}
use Rattle.pcapng_io.specs.declared.frames.NgFrame.{NgFrame}
use Rattle.pcapng_io.specs.declared.frames.NgHead.{NgHead}
use Rattle.pcapng_io.specs.declared.faults.NgRefusal.{NgRefusal}
use Rattle.pcapng_io.specs.declared.blocks.Block.{Block}
use Rattle.pcapng_io.specs.declared.blocks.Block.TheVariants as blocks
use Rattle.pcapng_io.specs.declared.feeds.Taken.{Taken}
use Rattle.pcapng_io.specs.declared.feeds.Taken.TheVariants as taken
use Rattle.pcapng_io.specs.Sections.{start, frame_of, section_behind}
use Rattle.pcapng_io.specs.Refusals.{moved, refusal_of, refused_from, Held}
use Rattle.pcapng_io.specs.Files.{IsBlock, IsPart, given_by}
use Rattle.pcapng_io.specs.Steps.{Applies, Says, Whole, frame_with}
use Rattle.pcapng_io.specs.Kept.{Kept}
use Rattle.pcapng_io.specs.Calls.{RefusedAt, Uses, TakesBlock, lent_frame}
use Rattle.pcapng_io.specs.Streams.{Stands}
use Rattle.pcapng_io.proofs.FrontLemmas.{some_none, refusal_more}
use Rattle.pcapng_io.proofs.BlockLemmas.{front_accepted, block_there, part_push}

-- ---- places

map_some : (o : Option NgRefusal) (f : NgRefusal → NgRefusal) (t : NgRefusal) → option_map f o ≡ Some t → (u : NgRefusal) × (o ≡ Some u)
map_some None f t is = absurd (cc)
map_some (Some u) f t is = (u, refl)

pub refused_row : (section : Section) (place : ℕ) (rest : List ℕ) (t : NgRefusal) → refused_from section place rest ≡ Some t → (u : NgRefusal) × (refusal_of section rest ≡ Some u)
refused_row section place rest t is = map_some (refusal_of section rest) (moved place) t is

-- what is refused is refused with more behind it
pub refused_longer : (section : Section) (place : ℕ) (rest more : List ℕ) (t : NgRefusal) → refused_from section place rest ≡ Some t → refused_from section place (rest ++ more) ≡ Some t
refused_longer section place rest more t is =
    let row = refused_row section place rest t is in
    ap (option_map (moved place)) (refusal_more section rest more row.0 row.1 ∙ sym row.1) ∙ is

pub accepted_from : (section : Section) (place : ℕ) (rest : List ℕ) → refusal_of section rest ≡ None → refused_from section place rest ≡ None
accepted_from section place rest none = ap (option_map (moved place)) none

pub refused_accepted : (section : Section) (place : ℕ) (rest : List ℕ) (t : NgRefusal) → refused_from section place rest ≡ Some t → refusal_of section rest ≡ None → ⊥
refused_accepted section place rest t bad none = some_none _ t bad (accepted_from section place rest none)

-- at the start nothing is held
pub held_start : Held start []
unfolding refusal_of
held_start = record { accepted = refl; unfinished = refl }

-- ---- a block is used up

applied : (said : Block) (old new behind : Section) (was : Taken) (block : List ℕ) (frame : Option NgFrame) → Says old said block frame behind → Applies said old new was → new ≡ behind
applied blocks.Skipped old new behind was block frame says done = done.1 ∙ sym says.1
applied (blocks.Header big) old new behind was block frame says done = done.1 ∙ sym says.1
applied (blocks.Described interface) old new behind was block frame says done = done.1 ∙ sym says.1
applied (blocks.Frame head) old new behind was block frame says done = done.1 ∙ sym says.1

-- what a whole block says, as it was taken
takes_said : (said : Block) (old new : Kept) (was : Taken) (block : List ℕ) → Applies said old.section new.section was → Says old.section said block (frame_of old.section block) (section_behind old.section block) → new.lent ≡ block
    → ((frame : Option NgFrame) → frame ≡ frame_of old.section block → Uses old new frame) → TakesBlock old new (Ok was)
takes_said blocks.Skipped old new was block done says lent uses =
    subst (λ (w : Taken). TakesBlock old new (Ok w)) (sym done.0) (uses None (sym says.0))
takes_said (blocks.Header big) old new was block done says lent uses =
    subst (λ (w : Taken). TakesBlock old new (Ok w)) (sym done.0) (uses None (sym says.0))
takes_said (blocks.Described interface) old new was block done says lent uses =
    subst (λ (w : Taken). TakesBlock old new (Ok w)) (sym done.0) (uses None (sym says.0))
takes_said (blocks.Frame head) old new was block done says lent uses =
    let there = says.2 in
    subst (λ (w : Taken). TakesBlock old new (Ok w)) (sym done.0) (
      uses (Some (lent_frame head new)) (ap (λ (b : List ℕ). Some (frame_with head b)) lent ∙ sym says.0),
      omega (arith, there, ap length lent),
    )

pub takes_whole : (old new : Kept) (size : ℕ) (said : Block) (was : Taken) → Whole old.section old.rest size said → Applies said old.section new.section was → new.lent ≡ take size old.rest → new.rest ≡ drop size old.rest
    → new.place ≡ old.place + size → new.failed ≡ old.failed → TakesBlock old new (Ok was)
takes_whole old new size said was whole done lent rest place failed =
    let block : List ℕ = take size old.rest in
    let is : IsBlock old.section block = subst (λ n. IsBlock old.section (take n old.rest)) (sym whole.size_is) (block_there old.section old.rest whole.whole whole.accepted) in
    let len : length block ≡ size = length-take-le size old.rest whole.there in
    takes_said said old new was block done whole.says lent
    (λ frame gives. record {
      block = block;
      is = is;
      rest = sym (take-append-drop size old.rest) ∙ ap (λ l. block ++ l) (sym rest);
      place = place ∙ ap (λ n. old.place + n) (sym len);
      section = applied said old.section new.section (section_behind old.section block) was block (frame_of old.section block) whole.says done;
      gives = gives;
      failed = failed;
    })

-- ---- the history

pub used_stands : (old new : Kept) (frame : Option NgFrame) (taken : List ℕ) (given : List NgFrame) → Uses old new frame → Stands old taken given → Stands new taken (given ++ given_by frame)
used_stands old new frame taken given u s =
    let part : IsPart (s.front ++ u.block) (section_behind old.section u.block) (given ++ given_by (frame_of old.section u.block)) = part_push s.front old.section given u.block s.part u.is in
    record {
      sound = u.failed ∙ s.sound;
      front = s.front ++ u.block;
      part =
          subst (λ (f : Option NgFrame). IsPart (s.front ++ u.block) new.section (given ++ given_by f)) (sym u.gives)
          (subst (λ (x : Section). IsPart (s.front ++ u.block) x (given ++ given_by (frame_of old.section u.block))) (sym u.section) part);
      joined = s.joined ∙ ap (λ l. s.front ++ l) u.rest ∙ sym (append_assoc s.front u.block new.rest);
      used = u.place ∙ ap (λ n. n + length u.block) s.used ∙ sym (length-append s.front u.block);
    }

pub skipped_stands : (old new : Kept) (taken : List ℕ) (given : List NgFrame) → Uses old new None → Stands old taken given → Stands new taken given
skipped_stands old new taken given u s = subst (λ (g : List NgFrame). Stands new taken g) (append-nil given) (used_stands old new None taken given u s)

-- a block that is used up was not refused
pub used_accepted : (old new : Kept) (frame : Option NgFrame) → Uses old new frame → refusal_of old.section old.rest ≡ None
used_accepted old new frame u = front_accepted old.section u.block new.rest old.rest u.is u.rest

-- more bytes behind the rest are more bytes taken
pub stands_more : (old new : Kept) (taken more : List ℕ) (given : List NgFrame) → new.rest ≡ old.rest ++ more → new.place ≡ old.place → new.section ≡ old.section → new.failed ≡ old.failed → Stands old taken given → Stands new (taken ++ more) given
stands_more old new taken more given rest place section failed s = record {
  sound = failed ∙ s.sound;
  front = s.front;
  part = subst (λ (x : Section). IsPart s.front x given) (sym section) s.part;
  joined = ap (λ l. l ++ more) s.joined ∙ append_assoc s.front old.rest more ∙ ap (λ l. s.front ++ l) (sym rest);
  used = place ∙ s.used;
}

pub stands_same : (old new : Kept) (taken : List ℕ) (given : List NgFrame) → new.rest ≡ old.rest → new.place ≡ old.place → new.section ≡ old.section → new.failed ≡ old.failed → Stands old taken given → Stands new taken given
stands_same old new taken given rest place section failed s = record {
  sound = failed ∙ s.sound;
  front = s.front;
  part = subst (λ (x : Section). IsPart s.front x given) (sym section) s.part;
  joined = s.joined ∙ ap (λ l. s.front ++ l) (sym rest);
  used = place ∙ s.used;
}

map_none : (o : Option NgRefusal) (f : NgRefusal → NgRefusal) → option_map f o ≡ None → o ≡ None
map_none None f none = refl
map_none (Some u) f none = absurd (cc)

pub none_accepted : (section : Section) (place : ℕ) (rest : List ℕ) → refused_from section place rest ≡ None → refusal_of section rest ≡ None
none_accepted section place rest none = map_none (refusal_of section rest) (moved place) none

-- ---- what was taken, by its case

pub takes_frame : (old new : Kept) (was : Taken) (head : NgHead) → was ≡ taken.Frame head → TakesBlock old new (Ok was) → Uses old new (Some (lent_frame head new))
takes_frame old new was head is takes =
    let both : Uses old new (Some (lent_frame head new)) × (head.from + head.captured ≤ length new.lent) = subst (λ (w : Taken). TakesBlock old new (Ok w)) is takes in
    both.0

pub takes_none : (old new : Kept) (was : Taken) → was ≡ taken.Skipped → TakesBlock old new (Ok was) → Uses old new None
takes_none old new was is takes = subst (λ (w : Taken). TakesBlock old new (Ok w)) is takes

-- what is refused is not used up
pub refused_used : (first old new : Kept) (frame : Option NgFrame) (t : NgRefusal) → RefusedAt first t → old ≡ first → Uses old new frame → ⊥
refused_used first old new frame t bad same u =
    let at : RefusedAt old t = subst (λ (k : Kept). RefusedAt k t) (sym same) bad in
    refused_accepted old.section old.place old.rest t at (used_accepted old new frame u)
