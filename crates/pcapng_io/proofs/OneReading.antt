-- Two readings of the same bytes are one: the blocks, the frames, and the end.
use Rattle.std.proofs.Common.{◌≡◌, ℕ, true, false, List, [], ◌∷◌, ◌++◌, length, Option, None, Some, refl, sym, ap, subst, ◌∙◌, append_assoc, inl, inr, arith}
use Rattle.std.specs.Prelude.{◌≢◌}
use Rattle.std.proofs.lemmas.List.{append-nil, length-append}
use Rattle.pcapng_io.specs.declared.sections.Section.{Section}
use Rattle.pcapng_io.specs.declared.frames.NgFrame.{NgFrame}
use Rattle.pcapng_io.specs.declared.faults.NgRefusal.{NgRefusal}
use Rattle.pcapng_io.specs.Sections.{start, section_behind, frame_of}
use Rattle.pcapng_io.specs.Refusals.{refusal_of, is_whole}
use Rattle.pcapng_io.specs.Files.{IsBlock, AreBlocks, section_after, frames_after, bytes_of, given_by, IsPart, IsNg}
use Rattle.pcapng_io.specs.Reads.{Reads, EndsIn}
use Rattle.pcapng_io.proofs.FrontLemmas.{some_none}
use Rattle.pcapng_io.proofs.BlockLemmas.{front_whole, front_accepted, same_block}
use Rattle.pcapng_io.proofs.StreamLemmas.{accepted_from}

-- ---- the end

-- no block stands at the front
abbrev pub BeginsNone : Section → List ℕ → Type 0
BeginsNone section rest = (block more : List ℕ) → IsBlock section block → rest ≢ block ++ more

ends_none : (section : Section) (rest : List ℕ) (place size : ℕ) (stop : Option NgRefusal) → EndsIn section rest place size stop → BeginsNone section rest
ends_none section rest place size None ends = λ block more is all.
    let sums = sym (ap length ends.0) ∙ ap length all ∙ length-append block more in
    let some = is.some in
    omega (arith, sums, some)
ends_none section rest place size (Some r) (inl bad) = λ block more is all. some_none _ r bad (accepted_from section place rest (front_accepted section block more rest is all))
ends_none section rest place size (Some r) (inr short) = λ block more is all.
    let whole : is_whole section rest ≡ true = front_whole section block more rest is all in
    let part : is_whole section rest ≡ false = short.held.unfinished in
    cc

-- nothing is not refused
empty_accepted : (section : Section) → refusal_of section [] ≡ None
unfolding refusal_of
empty_accepted section = refl

empty_no_end : (section : Section) (rest : List ℕ) (place size : ℕ) (r : NgRefusal) → rest ≡ [] → section.begun ≡ true → EndsIn section rest place size (Some r) → ⊥
empty_no_end section rest place size r none begun (inl bad) = some_none _ r bad (accepted_from section place rest (ap (refusal_of section) none ∙ empty_accepted section))
empty_no_end section rest place size r none begun (inr short) = short.misses begun none

one_stop : (o : Option NgRefusal) (r s : NgRefusal) → o ≡ Some r → o ≡ Some s → Some r ≡ Some s
one_stop o r s a b = sym a ∙ b

one_end : (section : Section) (rest : List ℕ) (place size : ℕ) (stop halt : Option NgRefusal) → EndsIn section rest place size stop → EndsIn section rest place size halt → stop ≡ halt
one_end section rest place size None None a b = refl
one_end section rest place size None (Some r) a b = absurd (empty_no_end section rest place size r a.0 a.1 b)
one_end section rest place size (Some r) None a b = absurd (empty_no_end section rest place size r b.0 b.1 a)
one_end section rest place size (Some r) (Some s) (inl a) (inl b) = one_stop _ r s a b
one_end section rest place size (Some r) (Some s) (inl a) (inr b) = absurd (some_none _ r a (accepted_from section place rest b.held.accepted))
one_end section rest place size (Some r) (Some s) (inr a) (inl b) = absurd (some_none _ s b (accepted_from section place rest a.held.accepted))
one_end section rest place size (Some r) (Some s) (inr a) (inr b) = ap Some (a.is ∙ sym b.is)

-- ---- one list of blocks

first_split : (b : List ℕ) (blocks : List (List ℕ)) (rest : List ℕ) → bytes_of (b ∷ blocks) ++ rest ≡ b ++ (bytes_of blocks ++ rest)
first_split b blocks rest = append_assoc b (bytes_of blocks) rest

pub front_split : (section : Section) (xs ys : List (List ℕ)) (r t : List ℕ) → AreBlocks section xs → AreBlocks section ys → BeginsNone (section_after section ys) t
    → bytes_of xs ++ r ≡ bytes_of ys ++ t → (more : List (List ℕ)) × (ys ≡ xs ++ more)
front_split section [] ys r t ax ay none e = (ys, refl)
front_split section (x ∷ xs) [] r t ax ay none e = absurd (none x (bytes_of xs ++ r) ax.0 (sym e ∙ first_split x xs r))
front_split section (x ∷ xs) (y ∷ ys) r t ax ay none e =
    let heads = same_block section x y (bytes_of xs ++ r) (bytes_of ys ++ t) ax.0 ay.0 (sym (first_split x xs r) ∙ e ∙ first_split y ys t) in
    let there : AreBlocks (section_behind section x) ys = subst (λ (b : List ℕ). AreBlocks (section_behind section b) ys) (sym heads.0) ay.1 in
    let left : BeginsNone (section_after (section_behind section x) ys) t = subst (λ (b : List ℕ). BeginsNone (section_after (section_behind section b) ys) t) (sym heads.0) none in
    let tails = front_split (section_behind section x) xs ys r t ax.1 there left heads.1 in
    (tails.0, ap (λ b. b ∷ ys) (sym heads.0) ∙ ap (λ l. x ∷ l) tails.1)

one_split : (section : Section) (xs ys : List (List ℕ)) (r t : List ℕ) → AreBlocks section xs → AreBlocks section ys → BeginsNone (section_after section xs) r → BeginsNone (section_after section ys) t
    → bytes_of xs ++ r ≡ bytes_of ys ++ t → (xs ≡ ys) × (r ≡ t)
one_split section [] [] r t ax ay nx ny e = (refl, e)
one_split section [] (y ∷ ys) r t ax ay nx ny e = absurd (nx y (bytes_of ys ++ t) ay.0 (e ∙ first_split y ys t))
one_split section (x ∷ xs) [] r t ax ay nx ny e = absurd (ny x (bytes_of xs ++ r) ax.0 (sym e ∙ first_split x xs r))
one_split section (x ∷ xs) (y ∷ ys) r t ax ay nx ny e =
    let heads = same_block section x y (bytes_of xs ++ r) (bytes_of ys ++ t) ax.0 ay.0 (sym (first_split x xs r) ∙ e ∙ first_split y ys t) in
    let there : AreBlocks (section_behind section x) ys = subst (λ (b : List ℕ). AreBlocks (section_behind section b) ys) (sym heads.0) ay.1 in
    let left : BeginsNone (section_after (section_behind section x) ys) t = subst (λ (b : List ℕ). BeginsNone (section_after (section_behind section b) ys) t) (sym heads.0) ny in
    let tails = one_split (section_behind section x) xs ys r t ax.1 there nx left heads.1 in
    (ap (λ b. b ∷ xs) heads.0 ∙ ap (λ l. y ∷ l) tails.0, tails.1)

-- ---- the readings

begins_none : (bytes : List ℕ) (frames : List NgFrame) (stop : Option NgRefusal) → (r : Reads bytes frames stop) → BeginsNone (section_after start r.part.blocks) r.rest
begins_none bytes frames stop r = subst (λ (s : Section). BeginsNone s r.rest) r.part.leaves (ends_none r.section r.rest (length r.front) (length bytes) stop r.ends)

joined_as : (bytes : List ℕ) (frames : List NgFrame) (stop : Option NgRefusal) → (r : Reads bytes frames stop) → bytes ≡ bytes_of r.part.blocks ++ r.rest
joined_as bytes frames stop r = r.joined ∙ ap (λ l. l ++ r.rest) r.part.all

ends_as : (bytes : List ℕ) (frames : List NgFrame) (stop : Option NgRefusal) → (r : Reads bytes frames stop) → EndsIn (section_after start r.part.blocks) r.rest (length (bytes_of r.part.blocks)) (length bytes) stop
ends_as bytes frames stop r =
    subst (λ (l : List ℕ). EndsIn (section_after start r.part.blocks) r.rest (length l) (length bytes) stop) r.part.all
    (subst (λ (s : Section). EndsIn s r.rest (length r.front) (length bytes) stop) r.part.leaves r.ends)

pub one_reading : (bytes : List ℕ) (frames others : List NgFrame) (stop halt : Option NgRefusal) → Reads bytes frames stop → Reads bytes others halt → (frames ≡ others) × (stop ≡ halt)
one_reading bytes frames others stop halt a b =
    let split = one_split start a.part.blocks b.part.blocks a.rest b.rest a.part.each b.part.each (begins_none bytes frames stop a) (begins_none bytes others halt b)
    (sym (joined_as bytes frames stop a) ∙ joined_as bytes others halt b) in
    let there : EndsIn (section_after start a.part.blocks) b.rest (length (bytes_of a.part.blocks)) (length bytes) halt =
    subst (λ (l : List (List ℕ)). EndsIn (section_after start l) b.rest (length (bytes_of l)) (length bytes) halt) (sym split.0) (ends_as bytes others halt b) in
    let here : EndsIn (section_after start a.part.blocks) a.rest (length (bytes_of a.part.blocks)) (length bytes) halt =
    subst (λ (l : List ℕ). EndsIn (section_after start a.part.blocks) l (length (bytes_of a.part.blocks)) (length bytes) halt) (sym split.1) there in (
      a.part.gives ∙ ap (frames_after start) split.0 ∙ sym b.part.gives,
      one_end (section_after start a.part.blocks) a.rest (length (bytes_of a.part.blocks)) (length bytes) stop halt (ends_as bytes frames stop a) here,
    )

-- a file is what is read of it, with nothing behind it
pub reads_ng : (bytes : List ℕ) (frames : List NgFrame) → IsNg bytes frames → Reads bytes frames None
reads_ng bytes frames ng = record { section = ng.section; front = bytes; rest = []; part = ng.part; joined = sym (append-nil bytes); ends = (refl, ng.begun) }

pub ng_read : (bytes : List ℕ) (frames : List NgFrame) → Reads bytes frames None → IsNg bytes frames
ng_read bytes frames r = record {
  section = r.section;
  part = subst (λ (l : List ℕ). IsPart l r.section frames) (sym (r.joined ∙ ap (λ l. r.front ++ l) r.ends.0 ∙ append-nil r.front)) r.part;
  begun = r.ends.1;
}

pub one_ng : (bytes : List ℕ) (frames others : List NgFrame) → IsNg bytes frames → IsNg bytes others → frames ≡ others
one_ng bytes frames others a b = (one_reading bytes frames others None None (reads_ng bytes frames a) (reads_ng bytes others b)).0

more_frames : (section : Section) (xs more : List (List ℕ)) → (rest : List NgFrame) × (frames_after section (xs ++ more) ≡ frames_after section xs ++ rest)
more_frames section [] more = (frames_after section more, refl)
more_frames section (x ∷ xs) more =
    let deeper = more_frames (section_behind section x) xs more in (
      deeper.0,
      ap (λ l. given_by (frame_of section x) ++ l) deeper.1 ∙ sym (append_assoc (given_by (frame_of section x)) (frames_after (section_behind section x) xs) deeper.0),
    )

-- frames of whole blocks at the front of the bytes are the first of those that a reader of the bytes gets
pub first_frames : (bytes front rest : List ℕ) (section : Section) (given frames : List NgFrame) (stop : Option NgRefusal) → IsPart front section given → bytes ≡ front ++ rest → Reads bytes frames stop
    → (more : List NgFrame) × (frames ≡ given ++ more)
first_frames bytes front rest section given frames stop part joined r =
    let split = front_split start part.blocks r.part.blocks rest r.rest part.each r.part.each (begins_none bytes frames stop r)
    (sym (joined ∙ ap (λ l. l ++ rest) part.all) ∙ joined_as bytes frames stop r) in
    let more = more_frames start part.blocks split.0 in (
      more.0,
      r.part.gives ∙ ap (frames_after start) split.1 ∙ more.1 ∙ ap (λ (fs : List NgFrame). fs ++ more.0) (sym part.gives),
    )
