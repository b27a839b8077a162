-- What one call of a feed does.
use Rattle.std.specs.Prelude.{◌≡◌, ◌⊎◌, ℕ, true, ◌+◌, List, ◌++◌, length, drop, Option, None, Some, Result, Ok, Err}
use Rattle.control_files.specs.declared.segments.Segment.{Segment}
use Rattle.control_files.specs.declared.segments.SegmentHead.{SegmentHead}
use Rattle.control_files.specs.declared.reasons.Refusal.{Refusal}
use Rattle.control_files.specs.declared.reasons.ControlFault.{ControlFault}
use Rattle.control_files.specs.declared.reasons.ControlFault.TheVariants as faults
use Rattle.control_files.specs.Segments.{MayFollow, mark_of, segment_bytes}
use Rattle.control_files.specs.Refusals.{told, refusal_of, Held}
use Rattle.control_files.specs.Steps.{segment_of}
use Rattle.control_files.specs.Kept.{Kept}

-- the segment that was given with this head, out of the bytes that are lent
abbrev pub lent_segment : SegmentHead → Kept → Segment
lent_segment head feed = segment_of head (drop 23 feed.lent)

-- what stands at the front of the rest is refused
abbrev pub RefusedAt : Kept → Refusal → Type 0
RefusedAt feed t = refusal_of feed.peers feed.mark feed.place feed.rest ≡ Some t

-- it is not refused, and not whole
abbrev pub IsHeld : Kept → Type 0
IsHeld feed = Held feed.peers feed.mark feed.place feed.rest

-- nothing whole stands at the front
abbrev pub IsQuiet : Kept → Type 0
IsQuiet feed = IsHeld feed ⊎ ((t : Refusal) × RefusedAt feed t)

-- why no segment is given: what stands at the front is refused, or there was no memory
abbrev pub IsStop : Kept → ControlFault → Type 0
IsStop feed (faults.Bad place reason) = RefusedAt feed (told place reason)
IsStop feed faults.OutOfMemory = feed.failed ≡ true

-- ---- what a call gives

-- the rest began with the segment's bytes, which are used up and lent
pub record Gives (old new : Kept) (head : SegmentHead) : Type 0 where
  pub follows : MayFollow old.peers old.mark (lent_segment head new)
  pub lent : new.lent ≡ segment_bytes (lent_segment head new)
  pub rest : old.rest ≡ segment_bytes (lent_segment head new) ++ new.rest
  pub place : new.place ≡ old.place + length (segment_bytes (lent_segment head new))
  pub mark : new.mark ≡ mark_of (lent_segment head new)
  pub same_peers : new.peers ≡ old.peers
  pub same_room : new.room ≡ old.room
  pub same_failed : new.failed ≡ old.failed

abbrev pub GivesNext : Kept → Kept → Result (Option SegmentHead) Refusal → Type 0
GivesNext old new (Ok (Some head)) = Gives old new head
GivesNext old new (Ok None) = IsHeld old × (new ≡ old)
GivesNext old new (Err r) = RefusedAt old r × (new ≡ old)

-- ---- what the rest asks for

-- a segment at the front is given, what is held is answered "not yet", what is refused is told
pub record ExactFor (GivesThe : Segment → Type 0) (SaysNotYet : Type 0) (Tells : Refusal → Type 0) (feed : Kept) : Type 0 where
  pub whole : (segment : Segment) (more : List ℕ) → MayFollow feed.peers feed.mark segment → feed.rest ≡ segment_bytes segment ++ more → GivesThe segment
  pub not_yet : IsHeld feed → SaysNotYet
  pub bad : (t : Refusal) → RefusedAt feed t → Tells t

-- the segment that is lent is this one
abbrev pub Lends : Kept → Result (Option SegmentHead) Refusal → Segment → Type 0
Lends new (Ok (Some head)) segment = lent_segment head new ≡ segment
Lends new (Ok None) segment = ⊥
Lends new (Err r) segment = ⊥

-- the answer that the old feed's rest asks for
abbrev pub Exact : Kept → Kept → Result (Option SegmentHead) Refusal → Type 0
Exact old new result = ExactFor (Lends new result) (result ≡ Ok None) (λ t. result ≡ Err t) old

-- the segment that is given is this one; want of memory is the free answer
abbrev pub GivesOwn : Result (Option Segment) ControlFault → Segment → Type 0
GivesOwn (Ok (Some given)) segment = given ≡ segment
GivesOwn (Ok None) segment = ⊥
GivesOwn (Err (faults.Bad place reason)) segment = ⊥
GivesOwn (Err faults.OutOfMemory) segment = Unit {0}

abbrev pub ExactOwn : Kept → Result (Option Segment) ControlFault → Type 0
ExactOwn old result = ExactFor (GivesOwn result) (result ≡ Ok None) (λ t. result ≡ Err (faults.Bad t.place t.reason)) old
