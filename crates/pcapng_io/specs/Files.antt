-- Which bytes are a pcapng file of which frames.
use Rattle.std.specs.Prelude.{◌≡◌, ◌≤◌, ◌<◌, ℕ, true, List, [], ◌∷◌, ◌++◌, length, Option, None, Some}
use Rattle.pcapng_io.specs.declared.sections.Section.{Section}
use Rattle.pcapng_io.specs.declared.frames.NgFrame.{NgFrame}
use Rattle.pcapng_io.specs.Sections.{start, size_at, frame_of, section_behind}
use Rattle.pcapng_io.specs.Refusals.{refusal_of}

-- the bytes are one block, and in the section nothing of it is refused
pub record IsBlock (section : Section) (block : List ℕ) : Type 0 where
  pub some : 12 ≤ length block
  pub whole : size_at section block ≡ length block
  pub accepted : refusal_of section block ≡ None

-- each is a block in the section behind those before it
abbrev pub AreBlocks : Section → List (List ℕ) → Type 0
AreBlocks section [] = Unit {0}
AreBlocks section (block ∷ blocks) = IsBlock section block × AreBlocks (section_behind section block) blocks

-- the section behind some blocks
abbrev pub section_after : Section → List (List ℕ) → Section
section_after section [] = section
section_after section (block ∷ blocks) = section_after (section_behind section block) blocks

abbrev pub given_by : Option NgFrame → List NgFrame
given_by None = []
given_by (Some frame) = frame ∷ []

-- the frames of some blocks
abbrev pub frames_after : Section → List (List ℕ) → List NgFrame
frames_after section [] = []
frames_after section (block ∷ blocks) = given_by (frame_of section block) ++ frames_after (section_behind section block) blocks

-- blocks one behind the other
abbrev pub bytes_of : List (List ℕ) → List ℕ
bytes_of [] = []
bytes_of (block ∷ blocks) = block ++ bytes_of blocks

-- the bytes are whole blocks from the start of a file on, which leave this section and give these frames
pub record IsPart (bytes : List ℕ) (section : Section) (frames : List NgFrame) : Type 0 where
  pub blocks : List (List ℕ)
  pub each : AreBlocks start blocks
  pub all : bytes ≡ bytes_of blocks
  pub leaves : section ≡ section_after start blocks
  pub gives : frames ≡ frames_after start blocks

-- the bytes are a file of these frames: whole blocks, of which the first, a section header, is there
pub record IsNg (bytes : List ℕ) (frames : List NgFrame) : Type 0 where
  pub section : Section
  pub part : IsPart bytes section frames
  pub begun : section.begun ≡ true

-- what a file may say of a frame
pub record IsWithin (frame : NgFrame) : Type 0 where
  pub seconds : frame.seconds ≤ 4294967295
  pub nanos : frame.nanos < 1000000000
  pub captured : length frame.bytes ≤ 262144
  pub whole : length frame.bytes ≤ frame.original
  pub original : frame.original ≤ 2147483647
