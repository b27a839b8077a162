-- What stands next in each input, behind the frames and the segments that were taken.
use Rattle.std.specs.Prelude.{◌≡◌, ◌≤◌, ◌^◌, ℕ, length, Bool, true, List, [], ◌∷◌, ◌++◌, None, Some}
use Rattle.pcap_io.specs.declared.frames.Captured.{Captured}
use Rattle.pcap_io.specs.declared.reasons.Refusal.{Refusal as CaptureRefusal}
use Rattle.pcap_io.specs.declared.reasons.CaptureReason.TheVariants as frame_reasons
use Rattle.pcap_io.specs.Kept.{Kept as CaptureKept}
use Rattle.pcap_io.specs.Calls.{lent_frame}
use Rattle.pcap_io.specs.Reads.{Reads}
use Rattle.control_files.specs.declared.segments.Segment.{Segment}
use Rattle.control_files.specs.declared.reasons.Refusal.{Refusal as ControlRefusal}
use Rattle.control_files.specs.declared.reasons.ControlReason.TheVariants as segment_reasons
use Rattle.control_files.specs.Kept.{Kept as ControlKept}
use Rattle.control_files.specs.Reads.{ReadsControl}
use Rattle.round_inputs.specs.declared.frames_ahead.FrameAhead.{FrameAhead}
use Rattle.round_inputs.specs.declared.frames_ahead.FrameAhead.TheVariants as frame
use Rattle.round_inputs.specs.declared.segments_ahead.SegmentAhead.{SegmentAhead}
use Rattle.round_inputs.specs.declared.segments_ahead.SegmentAhead.TheVariants as segment
use Rattle.round_inputs.specs.Reading.{FramesRead, SegmentsRead}

-- ---- frames

-- with the frame that stands next, which the feed lends
abbrev pub with_frame : FrameAhead → CaptureKept → List Captured → List Captured
with_frame (frame.Frame head) feed passed = passed ++ lent_frame head feed ∷ []
with_frame frame.End feed passed = passed
with_frame (frame.Bad r) feed passed = passed

-- what ends short was read to its end, within the limit
abbrev pub FrameShort : CaptureRefusal → List ℕ → Type 0
FrameShort r input = r.reason ≡ frame_reasons.Short → length input ≤ 2 ^ 40

-- where no frame stands next, those that were taken are all, and the input was read to its end, or is refused behind them
abbrev pub FrameEnds : Bool → List ℕ → List ℕ → FrameAhead → CaptureKept → List Captured → Type 0
FrameEnds tells input left (frame.Frame head) feed passed = Unit {0}
FrameEnds tells input left frame.End feed passed = tells ≡ true → Reads input feed.form passed None × (left ≡ []) × (length input ≤ 2 ^ 40)
FrameEnds tells input left (frame.Bad r) feed passed = tells ≡ true → Reads input feed.form passed (Some r) × FrameShort r input

-- the capture stands behind these frames
pub record CaptureAt (tells : Bool) (input left : List ℕ) (ahead : FrameAhead) (feed : CaptureKept) (passed : List Captured) : Type 0 where
  pub read : FramesRead tells input left feed (with_frame ahead feed passed)
  pub ends : FrameEnds tells input left ahead feed passed

-- one where a frame stands next
abbrev pub frames_next : FrameAhead → ℕ
frames_next (frame.Frame head) = 1
frames_next frame.End = 0
frames_next (frame.Bad r) = 0

-- ---- segments

-- with the segment that stands next
abbrev pub with_segment : SegmentAhead → List Segment → List Segment
with_segment (segment.Segment s) history = history ++ s ∷ []
with_segment segment.End history = history
with_segment (segment.Bad r) history = history

abbrev pub SegmentShort : ControlRefusal → List ℕ → Type 0
SegmentShort r input = r.reason ≡ segment_reasons.Short → length input ≤ 2 ^ 40

abbrev pub SegmentEnds : Bool → List ℕ → List ℕ → SegmentAhead → ControlKept → List Segment → Type 0
SegmentEnds tells input left (segment.Segment s) feed history = Unit {0}
SegmentEnds tells input left segment.End feed history = tells ≡ true → ReadsControl input feed.peers history None × (left ≡ []) × (length input ≤ 2 ^ 40)
SegmentEnds tells input left (segment.Bad r) feed history = tells ≡ true → ReadsControl input feed.peers history (Some r) × SegmentShort r input

-- the control file stands behind these segments
pub record ControlAt (tells : Bool) (input left : List ℕ) (ahead : SegmentAhead) (feed : ControlKept) (history : List Segment) : Type 0 where
  pub read : SegmentsRead tells input left feed (with_segment ahead history)
  pub ends : SegmentEnds tells input left ahead feed history
