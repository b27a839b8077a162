-- When a round's segments, and its frames, are all that join it.
use Rattle.std.specs.Prelude.{◌≡◌, ◌⊎◌, ℕ, ◌≤◌, Bool, true, false, ◌&&◌, List, [], ◌∷◌, length}
use Rattle.pcap_io.specs.declared.frames.Captured.{Captured}
use Rattle.pcap_io.specs.Kept.{Kept}
use Rattle.control_files.specs.declared.segments.Segment.{Segment}
use Rattle.rounds.specs.Rounds.{is_at_cut}
use Rattle.round_inputs.specs.declared.frames_ahead.FrameAhead.{FrameAhead}
use Rattle.round_inputs.specs.declared.frames_ahead.FrameAhead.TheVariants as frame
use Rattle.round_inputs.specs.declared.segments_ahead.SegmentAhead.{SegmentAhead}
use Rattle.round_inputs.specs.declared.segments_ahead.SegmentAhead.TheVariants as segment
use Rattle.round_inputs.specs.Ahead.{frames_next}

-- the feed lends the frame that stands next, behind a head of 16 bytes
abbrev pub LendsNext : FrameAhead → Kept → Type 0
LendsNext (frame.Frame head) feed = 16 ≤ length feed.lent
LendsNext frame.End feed = Unit {0}
LendsNext (frame.Bad r) feed = Unit {0}

abbrev pub are_at_cut : Bool → ℕ → List Segment → Bool
are_at_cut ended place [] = true
are_at_cut ended place (s ∷ ss) = is_at_cut ended place s && are_at_cut ended place ss

-- the group has 256 segments, or none of the cut stands next
pub record IsFull (ended : Bool) (place : ℕ) (ahead : SegmentAhead) (group : List Segment) : Type 0 where
  pub small : length group ≤ 256
  pub full : (length group ≡ 256) ⊎ ((s : Segment) → ahead ≡ segment.Segment s → is_at_cut ended place s ≡ false)

-- there are so many frames as were wanted, or no frame stands next
pub record IsFilled (most : ℕ) (ahead : FrameAhead) (frames : List Captured) : Type 0 where
  pub small : length frames ≤ most
  pub full : (length frames ≡ most) ⊎ (frames_next ahead ≡ 0)

-- these segments may be left, where this one stands next; the position of the first decides how far the next cut is
abbrev pub AheadOf : SegmentAhead → List Segment → Type 0
AheadOf (segment.Segment s) [] = ⊥
AheadOf (segment.Segment s) (t ∷ rest) = t ≡ s
AheadOf segment.End rest = rest ≡ []
AheadOf (segment.Bad r) rest = rest ≡ []
