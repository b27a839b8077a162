-- Generated inputs: a setup, the frames of a capture and the segments of a control file.
use Rattle.std.specs.Prelude.{◌≡◌, ℕ, List}
use Rattle.control_files.specs.declared.segments.Segment.{Segment}
use Rattle.pcap_io.specs.declared.frames.Captured.{Captured}
use Rattle.sfc_config.specs.Parts.{Parts}
use Rattle.sfc_config.specs.Texts.{IsSetup}
use Rattle.generated_inputs.specs.Setups.{setup_text}
use Rattle.generated_inputs.specs.Frames.{generated_frames}
use Rattle.generated_inputs.specs.Segments.{generated_segments}

-- these are the inputs from a seed, with so many frames
pub record IsGenerated (seed count : ℕ) (setup : Parts) (frames : List Captured) (segments : List Segment) : Type 0 where
  pub setup_is : IsSetup setup_text setup
  pub frames_are : frames ≡ generated_frames seed count
  pub segments_are : segments ≡ generated_segments setup.local count
