-- When bytes begin a pcapng file, and what a feed at rest has read.
use Rattle.std.proofs.Common.{◌≡◌, ◌⊎◌, inl, inr, ℕ, ◌+◌, ◌≤◌, Bool, true, false, List, [], ◌∷◌, ◌++◌, length, Option, None, Some, refl, sym, ap, ◌∙◌, subst, append_assoc, arith}
use Rattle.std.proofs.lemmas.List.{length-append}
use Rattle.std.specs.Prelude.{◌≢◌}
use Rattle.pcapng_io.specs.declared.sections.Section.{Section}
use Rattle.pcapng_io.specs.declared.frames.NgFrame.{NgFrame}
use Rattle.pcapng_io.specs.declared.faults.NgReason.TheVariants as reasons
use Rattle.pcapng_io.specs.declared.faults.NgRefusal.{NgRefusal}
use Rattle.pcapng_io.specs.Calls.{IsHeld, RefusedAt}
use Rattle.pcapng_io.specs.Files.{AreBlocks, IsPart, bytes_of, frames_after, given_by, section_after}
use Rattle.pcapng_io.specs.Kept.{Kept}
use Rattle.pcapng_io.specs.Reads.{BeginsNg, EndsIn, Misses, Reads}
use Rattle.pcapng_io.specs.Refusals.{is_whole, refused_from, told}
use Rattle.pcapng_io.specs.Sections.{frame_of, section_behind, start}
use Rattle.pcapng_io.specs.Streams.{Stands}
use Rattle.pcapng_io.proofs.BlockLemmas.{front_accepted, front_whole}
use Rattle.pcapng_io.proofs.OneReading.{one_reading}
use Rattle.pcapng_io.proofs.ReadsLemmas.{reads_short, reads_whole}
use Rattle.pcapng_io.proofs.StreamLemmas.{accepted_from, refused_accepted, refused_longer}

-- ---- more behind

pub begins_more : (taken left : List ℕ) → BeginsNg taken → BeginsNg (taken ++ left)
begins_more taken left b = record { header = b.header; rest = b.rest ++ left; is = b.is; joined = ap (λ l. l ++ left) b.joined ∙ append_assoc b.header b.rest left }

-- ---- blocks in front

first_block : (block : List ℕ) (blocks : List (List ℕ)) (bytes front rest : List ℕ) → AreBlocks start (block ∷ blocks) → front ≡ bytes_of (block ∷ blocks) → bytes ≡ front ++ rest → BeginsNg bytes
first_block block blocks bytes front rest each all joined = record {
  header = block;
  rest = bytes_of blocks ++ rest;
  is = each.0;
  joined = joined ∙ (ap (λ l. l ++ rest) all ∙ append_assoc block (bytes_of blocks) rest);
}

some_frame : (frames : List NgFrame) (frame : NgFrame) → frames ++ frame ∷ [] ≡ [] → ⊥
some_frame [] frame e = cc
some_frame (f ∷ fs) frame e = cc

begins_with : (blocks : List (List ℕ)) (taken front rest : List ℕ) (frames : List NgFrame) (frame : NgFrame) → AreBlocks start blocks → front ≡ bytes_of blocks → taken ≡ front ++ rest → frames ++ frame ∷ [] ≡ frames_after start blocks → BeginsNg taken
begins_with [] taken front rest frames frame each all joined gives = absurd (some_frame frames frame gives)
begins_with (b ∷ bs) taken front rest frames frame each all joined gives = first_block b bs taken front rest each all joined

-- where a frame was given, the file begins
pub begins_given : (feed : Kept) (taken : List ℕ) (frames : List NgFrame) (frame : NgFrame) → Stands feed taken (frames ++ frame ∷ []) → BeginsNg taken
begins_given feed taken frames frame s = begins_with s.part.blocks taken s.front feed.rest frames frame s.part.each s.part.all s.joined s.part.gives

-- ---- how many frames

given_few : (o : Option NgFrame) → length (given_by o) ≤ 1
given_few None = omega arith
given_few (Some frame) = omega arith

blocks_few : (section : Section) (blocks : List (List ℕ)) → AreBlocks section blocks → length (frames_after section blocks) ≤ length (bytes_of blocks)
blocks_few section [] each = omega arith
blocks_few section (b ∷ bs) each =
    let one = given_few (frame_of section b) in
    let frames = length-append (given_by (frame_of section b)) (frames_after (section_behind section b) bs) in
    let some = each.0.some in
    let bytes = length-append b (bytes_of bs) in
    let later = blocks_few (section_behind section b) bs each.1 in
    omega (arith, one, frames, some, bytes, later)

pub frames_few : (front : List ℕ) (section : Section) (frames : List NgFrame) → IsPart front section frames → length frames ≤ length front
frames_few front section frames part =
    let few = blocks_few start part.blocks part.each in
    let gives = ap length part.gives in
    let all = ap length part.all in
    omega (arith, few, gives, all)

-- ---- nothing begins

-- what is refused at the start begins nothing
start_refused : (section : Section) (place : ℕ) (rest bytes : List ℕ) (t : NgRefusal) → section ≡ start → bytes ≡ rest → refused_from section place rest ≡ Some t → BeginsNg bytes → ⊥
start_refused section place rest bytes t fresh same bad b =
    let at : refused_from start place rest ≡ Some t = subst (λ (x : Section). refused_from x place rest ≡ Some t) fresh bad in
    refused_accepted start place rest t at (front_accepted start b.header b.rest rest b.is (sym same ∙ b.joined))

none_with : (blocks : List (List ℕ)) (section : Section) (place : ℕ) (taken front rest left : List ℕ) (t : NgRefusal) → AreBlocks start blocks → front ≡ bytes_of blocks → section ≡ section_after start blocks → taken ≡ front ++ rest → refused_from section place rest ≡ Some t
    → (BeginsNg taken → ⊥) → BeginsNg (taken ++ left) → ⊥
none_with [] section place taken front rest left t each all leaves joined bad none b =
    let same : taken ≡ rest = joined ∙ ap (λ l. l ++ rest) all in
    start_refused section place (rest ++ left) (taken ++ left) t leaves (ap (λ l. l ++ left) same) (refused_longer section place rest left t bad) b
none_with (x ∷ xs) section place taken front rest left t each all leaves joined bad none b = none (first_block x xs taken front rest each all joined)

-- where a feed refuses what does not begin a file, nothing begins one whatever comes behind
pub none_begins : (feed : Kept) (taken left : List ℕ) (given : List NgFrame) (t : NgRefusal) → Stands feed taken given → RefusedAt feed t → (BeginsNg taken → ⊥) → BeginsNg (taken ++ left) → ⊥
none_begins feed taken left given t s bad none = none_with s.part.blocks feed.section feed.place taken s.front feed.rest left t s.part.each s.part.all s.part.leaves s.joined bad none

true_false : true ≡ false → ⊥
true_false e = cc

-- and a reading without a block begins nothing
ends_begin : (section : Section) (rest bytes : List ℕ) (place size : ℕ) (stop : Option NgRefusal) → section ≡ start → bytes ≡ rest → EndsIn section rest place size stop → BeginsNg bytes → ⊥
ends_begin section rest bytes place size None fresh same ends b = true_false (sym ends.1 ∙ ap (λ (x : Section). x.begun) fresh)
ends_begin section rest bytes place size (Some r) fresh same (inl bad) b = start_refused section place rest bytes r fresh same bad b
ends_begin section rest bytes place size (Some r) fresh same (inr short) b =
    let whole : is_whole start rest ≡ true = front_whole start b.header b.rest rest b.is (sym same ∙ b.joined) in
    let part : is_whole start rest ≡ false = subst (λ (x : Section). is_whole x rest ≡ false) fresh short.held.unfinished in
    true_false (sym whole ∙ part)

begins_or : (blocks : List (List ℕ)) (section : Section) (bytes front rest : List ℕ) (place size : ℕ) (stop : Option NgRefusal) → AreBlocks start blocks → front ≡ bytes_of blocks → section ≡ section_after start blocks → bytes ≡ front ++ rest → EndsIn section rest place size stop → BeginsNg bytes ⊎ (BeginsNg bytes → ⊥)
begins_or [] section bytes front rest place size stop each all leaves joined ends =
    let same : bytes ≡ rest = joined ∙ ap (λ l. l ++ rest) all in
    inr (ends_begin section rest bytes place size stop leaves same ends)
begins_or (b ∷ bs) section bytes front rest place size stop each all leaves joined ends = inl (first_block b bs bytes front rest each all joined)

-- bytes that are read begin a file or not
pub begins_or_not : (bytes : List ℕ) (frames : List NgFrame) (stop : Option NgRefusal) → Reads bytes frames stop → BeginsNg bytes ⊎ (BeginsNg bytes → ⊥)
begins_or_not bytes frames stop r = begins_or r.part.blocks r.section bytes r.front r.rest (length r.front) (length bytes) stop r.part.each r.part.all r.part.leaves r.joined r.ends

-- ---- a feed at rest

short_read : (feed : Kept) (taken : List ℕ) (given : List NgFrame) → Stands feed taken given → IsHeld feed → Misses feed.section feed.rest → (stop : Option NgRefusal) × Reads taken given stop
short_read feed taken given s held misses =
    let r : NgRefusal = told (feed.place + length feed.rest) reasons.Short in
    (Some r, reads_short feed taken given r s (inl held) (accepted_from feed.section feed.place feed.rest held.accepted) misses refl)

rest_read : (feed : Kept) (taken : List ℕ) (given : List NgFrame) (rest : List ℕ) (begun : Bool) → Stands feed taken given → IsHeld feed → feed.rest ≡ rest → feed.section.begun ≡ begun → (stop : Option NgRefusal) × Reads taken given stop
rest_read feed taken given [] true s held none begins = (None, reads_whole feed taken given s none begins)
rest_read feed taken given [] false s held none begins = short_read feed taken given s held (λ is. absurd (true_false (sym is ∙ begins)))
rest_read feed taken given (x ∷ xs) begun s held some begins = short_read feed taken given s held (λ is none. let e : x ∷ xs ≡ [] = sym some ∙ none in cc)

-- what it gave is all that a reader of the bytes gets
pub rest_gave : (feed : Kept) (taken : List ℕ) (given frames : List NgFrame) (stop : Option NgRefusal) → Stands feed taken given → IsHeld feed → Reads taken frames stop → given ≡ frames
rest_gave feed taken given frames stop s held reads =
    let own = rest_read feed taken given feed.rest feed.section.begun s held refl refl in
    (one_reading taken given frames own.0 stop own.1 reads).0
