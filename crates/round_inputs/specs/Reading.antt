-- Both feeds, the bytes that they took, and what is left of their inputs.
use Rattle.std.specs.Prelude.{◌≡◌, ℕ, Bool, true, List, ◌++◌}
use Rattle.pcap_io.specs.declared.frames.Captured.{Captured}
use Rattle.pcap_io.specs.Kept.{Kept as CaptureKept}
use Rattle.pcap_io.specs.Streams.{Stands as CaptureStands}
use Rattle.control_files.specs.declared.segments.Segment.{Segment}
use Rattle.control_files.specs.Kept.{Kept as ControlKept}
use Rattle.control_files.specs.Streams.{Stands as ControlStands}

-- the feed gave these frames, of an input of which so much is left
pub record FramesRead (tells : Bool) (input left : List ℕ) (feed : CaptureKept) (given : List Captured) : Type 0 where
  pub taken : List ℕ
  pub stands : CaptureStands feed taken given
  pub joined : tells ≡ true → taken ++ left ≡ input

-- the feed gave these segments, of an input of which so much is left
pub record SegmentsRead (tells : Bool) (input left : List ℕ) (feed : ControlKept) (given : List Segment) : Type 0 where
  pub taken : List ℕ
  pub stands : ControlStands feed taken given
  pub joined : tells ≡ true → taken ++ left ≡ input
