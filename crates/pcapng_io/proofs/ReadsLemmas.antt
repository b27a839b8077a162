-- Where a feed ends, and what a reader of all bytes gets.
use Rattle.std.proofs.Common.{◌≡◌, ℕ, ◌+◌, true, List, [], ◌++◌, length, Option, None, Some, ap, subst, ◌∙◌, inl, inr, arith, append_assoc}
use Rattle.std.proofs.lemmas.List.{length-append}
use Rattle.pcapng_io.specs.declared.frames.NgFrame.{NgFrame}
use Rattle.pcapng_io.specs.declared.faults.NgReason.TheVariants as reasons
use Rattle.pcapng_io.specs.declared.faults.NgRefusal.{NgRefusal}
use Rattle.pcapng_io.specs.Refusals.{told, refused_from}
use Rattle.pcapng_io.specs.Kept.{Kept}
use Rattle.pcapng_io.specs.Calls.{RefusedAt, IsHeld, IsQuiet}
use Rattle.pcapng_io.specs.Streams.{Stands}
use Rattle.pcapng_io.specs.Reads.{Reads, EndsIn, Misses, IsShortAt}
use Rattle.pcapng_io.proofs.StreamLemmas.{refused_longer, refused_accepted, none_accepted}

-- the bytes taken are the used ones and the rest
pub size_taken : (feed : Kept) (taken : List ℕ) (given : List NgFrame) → Stands feed taken given → feed.place + length feed.rest ≡ length taken
size_taken feed taken given s = let u = s.used in let j = ap length s.joined ∙ length-append s.front feed.rest in omega (arith, u, j)

reads_at : (feed : Kept) (taken : List ℕ) (given : List NgFrame) (stop : Option NgRefusal) → (s : Stands feed taken given) → EndsIn feed.section feed.rest feed.place (length taken) stop → Reads taken given stop
reads_at feed taken given stop s ends = record {
  section = feed.section;
  front = s.front;
  rest = feed.rest;
  part = s.part;
  joined = s.joined;
  ends = subst (λ (n : ℕ). EndsIn feed.section feed.rest n (length taken) stop) s.used ends;
}

pub reads_refused : (feed : Kept) (taken : List ℕ) (given : List NgFrame) (r : NgRefusal) → Stands feed taken given → RefusedAt feed r → Reads taken given (Some r)
reads_refused feed taken given r s bad = reads_at feed taken given (Some r) s (inl bad)

-- and so whatever is behind the bytes
pub reads_refused_more : (feed : Kept) (taken more : List ℕ) (given : List NgFrame) (r : NgRefusal) → Stands feed taken given → RefusedAt feed r → Reads (taken ++ more) given (Some r)
reads_refused_more feed taken more given r s bad = record {
  section = feed.section;
  front = s.front;
  rest = feed.rest ++ more;
  part = s.part;
  joined = ap (λ l. l ++ more) s.joined ∙ append_assoc s.front feed.rest more;
  ends = inl (subst (λ (n : ℕ). refused_from feed.section n (feed.rest ++ more) ≡ Some r) s.used (refused_longer feed.section feed.place feed.rest more r bad));
}

pub reads_whole : (feed : Kept) (taken : List ℕ) (given : List NgFrame) → Stands feed taken given → feed.rest ≡ [] → feed.section.begun ≡ true → Reads taken given None
reads_whole feed taken given s none begun = reads_at feed taken given None s (none, begun)

-- what is quiet and not refused is held
held_quiet : (feed : Kept) → IsQuiet feed → refused_from feed.section feed.place feed.rest ≡ None → IsHeld feed
held_quiet feed (inl held) none = held
held_quiet feed (inr bad) none = absurd (refused_accepted feed.section feed.place feed.rest bad.0 bad.1 (none_accepted feed.section feed.place feed.rest none))

pub reads_short : (feed : Kept) (taken : List ℕ) (given : List NgFrame) (r : NgRefusal) → Stands feed taken given → IsQuiet feed → refused_from feed.section feed.place feed.rest ≡ None → Misses feed.section feed.rest → IsShortAt (feed.place + length feed.rest) r → Reads taken given (Some r)
reads_short feed taken given r s quiet none misses is =
    reads_at feed taken given (Some r) s
    (inr (record { held = held_quiet feed quiet none; misses = misses; is = is ∙ ap (λ n. told n reasons.Short) (size_taken feed taken given s) }))
