-- Where a feed ends, and what a reader of all bytes gets.
use Rattle.std.proofs.Common.{◌≡◌, ℕ, ◌+◌, List, [], ◌++◌, length, Option, None, Some, refl, ap, subst, ◌∙◌, inl, inr, arith, append_assoc}
use Rattle.std.specs.Prelude.{◌≢◌}
use Rattle.std.proofs.lemmas.List.{length-append}
use Rattle.control_files.specs.declared.segments.Segment.{Segment}
use Rattle.control_files.specs.declared.segments.Mark.{Mark}
use Rattle.control_files.specs.declared.reasons.Refusal.{Refusal}
use Rattle.control_files.specs.declared.reasons.ControlReason.TheVariants as reasons
use Rattle.control_files.specs.Segments.{mark_behind, start}
use Rattle.control_files.specs.Refusals.{told, refusal_of}
use Rattle.control_files.specs.Kept.{Kept}
use Rattle.control_files.specs.Calls.{RefusedAt, IsHeld, IsQuiet}
use Rattle.control_files.specs.Streams.{Stands}
use Rattle.control_files.specs.Reads.{ReadsControl, EndsIn, IsShortAt}
use Rattle.control_files.proofs.FieldLemmas.{some_none, refusal_more}

-- the bytes taken are the used ones and the rest
size_taken : (feed : Kept) (taken : List ℕ) (given : List Segment) → Stands feed taken given → feed.place + length feed.rest ≡ length taken
size_taken feed taken given s = let u = s.used in let j = ap length s.joined ∙ length-append s.front feed.rest in omega (arith, u, j)

reads_at : (feed : Kept) (taken : List ℕ) (given : List Segment) (stop : Option Refusal) → (s : Stands feed taken given) → EndsIn feed.peers feed.mark feed.rest feed.place (length taken) stop → ReadsControl taken feed.peers given stop
reads_at feed taken given stop s ends = record {
  front = s.front;
  rest = feed.rest;
  is_control = s.is_control;
  joined = s.joined;
  ends =
      subst (λ (n : ℕ). EndsIn feed.peers (mark_behind start given) feed.rest n (length taken) stop) s.used
      (subst (λ (m : Mark). EndsIn feed.peers m feed.rest feed.place (length taken) stop) s.mark ends);
}

pub reads_refused : (feed : Kept) (taken : List ℕ) (given : List Segment) (r : Refusal) → Stands feed taken given → RefusedAt feed r → ReadsControl taken feed.peers given (Some r)
reads_refused feed taken given r s bad = reads_at feed taken given (Some r) s (inl bad)

-- and so whatever is behind the bytes
pub reads_refused_more : (feed : Kept) (taken more : List ℕ) (given : List Segment) (r : Refusal) → Stands feed taken given → RefusedAt feed r → ReadsControl (taken ++ more) feed.peers given (Some r)
reads_refused_more feed taken more given r s bad = record {
  front = s.front;
  rest = feed.rest ++ more;
  is_control = s.is_control;
  joined = ap (λ l. l ++ more) s.joined ∙ append_assoc s.front feed.rest more;
  ends =
      inl (subst (λ (n : ℕ). refusal_of feed.peers (mark_behind start given) n (feed.rest ++ more) ≡ Some r) s.used
      (subst (λ (m : Mark). refusal_of feed.peers m feed.place (feed.rest ++ more) ≡ Some r) s.mark (refusal_more feed.peers feed.mark feed.place feed.rest more r bad)));
}

pub reads_whole : (feed : Kept) (taken : List ℕ) (given : List Segment) → Stands feed taken given → feed.rest ≡ [] → ReadsControl taken feed.peers given None
reads_whole feed taken given s none = reads_at feed taken given None s none

-- what is quiet and not refused is held
held_quiet : (feed : Kept) → IsQuiet feed → refusal_of feed.peers feed.mark feed.place feed.rest ≡ None → IsHeld feed
held_quiet feed (inl held) none = held
held_quiet feed (inr bad) none = absurd (some_none bad.0 _ bad.1 none)

pub reads_short : (feed : Kept) (taken : List ℕ) (given : List Segment) (r : Refusal) → Stands feed taken given → IsQuiet feed → refusal_of feed.peers feed.mark feed.place feed.rest ≡ None → feed.rest ≢ [] → IsShortAt (feed.place + length feed.rest) r → ReadsControl taken feed.peers given (Some r)
reads_short feed taken given r s quiet none some is =
    reads_at feed taken given (Some r) s
    (inr (record { held = held_quiet feed quiet none; misses = some; is = is ∙ ap (λ n. told n reasons.Short) (size_taken feed taken given s) }))

-- nothing is not refused
empty_accepted : (peers : List ℕ) (mark : Mark) (place : ℕ) → refusal_of peers mark place [] ≡ None
unfolding refusal_of
empty_accepted peers mark place = refl

pub refused_some : (feed : Kept) (r : Refusal) → RefusedAt feed r → feed.rest ≢ []
refused_some feed r bad none =
    some_none r _ bad (ap (refusal_of feed.peers feed.mark feed.place) none ∙ empty_accepted feed.peers feed.mark feed.place)
