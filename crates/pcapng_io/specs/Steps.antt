-- What the bytes at hand begin with, as the program tells it.
use Rattle.std.specs.Prelude.{◌≡◌, ◌≤◌, ◌<◌, ℕ, ◌+◌, Bool, true, false, List, [], ◌∷◌, ◌++◌, length, take, drop, All, Option, None, Some}
use Rattle.pcapng_io.specs.declared.faults.NgRefusal.{NgRefusal}
use Rattle.pcapng_io.specs.declared.sections.Interface.{Interface}
use Rattle.pcapng_io.specs.declared.sections.Section.{Section}
use Rattle.pcapng_io.specs.declared.frames.NgFrame.{NgFrame}
use Rattle.pcapng_io.specs.declared.frames.NgHead.{NgHead}
use Rattle.pcapng_io.specs.declared.openings.Opening.{Opening}
use Rattle.pcapng_io.specs.declared.openings.Opening.TheVariants as openings
use Rattle.pcapng_io.specs.declared.blocks.Block.{Block}
use Rattle.pcapng_io.specs.declared.blocks.Block.TheVariants as blocks
use Rattle.pcapng_io.specs.declared.blocks.Judged.{Judged}
use Rattle.pcapng_io.specs.declared.blocks.Judged.TheVariants as judged
use Rattle.pcapng_io.specs.declared.blocks.BlockStep.{BlockStep}
use Rattle.pcapng_io.specs.declared.blocks.BlockStep.TheVariants as steps
use Rattle.pcapng_io.specs.declared.feeds.Taken.{Taken}
use Rattle.pcapng_io.specs.declared.feeds.Taken.TheVariants as taken
use Rattle.pcapng_io.specs.declared.kinds.BlockKind.{BlockKind}
use Rattle.pcapng_io.specs.Numbers.{word_at}
use Rattle.pcapng_io.specs.Kinds.{is_length}
use Rattle.pcapng_io.specs.Times.{is_resolution}
use Rattle.pcapng_io.specs.Sections.{order_at, size_at, kind_at, frame_by, section_by, frame_of, section_behind}
use Rattle.pcapng_io.specs.Refusals.{told, opening, fields_by, first_bad, is_whole, refusal_of}

-- ---- the first bytes of a block

-- where the rule answers the refusal, and the block is of this kind and its numbers have this order
abbrev pub OpensIn : BlockKind → Bool → List ℕ → Option NgRefusal → Opening → Type 0
OpensIn kind big bytes refusal openings.Wait = (refusal ≡ None) × (length bytes < 12)
OpensIn kind big bytes refusal (openings.Refused at reason) = (refusal ≡ Some (told at reason)) × (at + 4 ≤ length bytes)
OpensIn kind big bytes refusal (openings.Block own order size) =
    (refusal ≡ None) × (12 ≤ length bytes) × (own ≡ kind) × (order ≡ big) × (size ≡ word_at big 4 bytes) × (is_length kind size ≡ true)

abbrev pub OpeningGives : Section → List ℕ → Opening → Type 0
OpeningGives section bytes o = OpensIn (kind_at section bytes) (order_at section.big bytes) bytes (opening section bytes) o

-- ---- a whole block

-- the frame of this head, out of the bytes of its block
abbrev pub frame_with : NgHead → List ℕ → NgFrame
frame_with head block = record {
  seconds = head.seconds;
  nanos = head.nanos;
  original = head.original;
  interface = head.interface;
  ethernet = head.ethernet;
  bytes = take head.captured (drop head.from block);
}

-- what a block says, as the frame that it gives and the section behind it
abbrev pub Says : Section → Block → List ℕ → Option NgFrame → Section → Type 0
Says section blocks.Skipped block frame behind = (frame ≡ None) × (behind ≡ section)
Says section (blocks.Header big) block frame behind = (frame ≡ None) × (behind ≡ record { begun = true; big = big; interfaces = [] })
Says section (blocks.Described interface) block frame behind =
    (frame ≡ None) × (behind ≡ record { begun = section.begun; big = section.big; interfaces = section.interfaces ++ interface ∷ [] })
Says section (blocks.Frame head) block frame behind =
    (frame ≡ Some (frame_with head block)) × (behind ≡ section) × (head.from + head.captured ≤ length block)

-- what the feed takes off the front where a block says so, and the section behind it
abbrev pub Applies : Block → Section → Section → Taken → Type 0
Applies blocks.Skipped old new was = (was ≡ taken.Skipped) × (new ≡ old)
Applies (blocks.Header big) old new was = (was ≡ taken.Skipped) × (new ≡ record { begun = true; big = big; interfaces = [] })
Applies (blocks.Described interface) old new was =
    (was ≡ taken.Skipped) × (new ≡ record { begun = old.begun; big = old.big; interfaces = old.interfaces ++ interface ∷ [] })
Applies (blocks.Frame head) old new was = (was ≡ taken.Frame head) × (new ≡ old)

-- times of the interfaces' resolutions are read
abbrev pub AreRead : List Interface → Type 0
AreRead interfaces = All (λ (interface : Interface). is_resolution interface.resolution ≡ true) interfaces

-- and those of an interface that a block describes
abbrev pub IsReadBlock : Block → Type 0
IsReadBlock (blocks.Described interface) = is_resolution interface.resolution ≡ true
IsReadBlock _ = Unit {0}

abbrev pub IsRead : Judged → Type 0
IsRead (judged.Refused at reason) = Unit {0}
IsRead (judged.Good said) = IsReadBlock said

abbrev pub IsReadStep : BlockStep → Type 0
IsReadStep (steps.Whole size said) = IsReadBlock said
IsReadStep _ = Unit {0}

-- the fields of a block of this kind were judged
abbrev pub JudgedAs : BlockKind → Section → Bool → List ℕ → Judged → Type 0
JudgedAs kind section big block (judged.Refused at reason) = (first_bad (fields_by kind section big block) ≡ Some (told at reason)) × (at ≤ length block)
JudgedAs kind section big block (judged.Good said) =
    (first_bad (fields_by kind section big block) ≡ None) × Says section said block (frame_by kind section big block) (section_by kind section big block)

-- ---- the bytes at hand

-- a whole block of this size stands at the front, and says so
pub record Whole (section : Section) (bytes : List ℕ) (size : ℕ) (said : Block) : Type 0 where
  pub accepted : refusal_of section bytes ≡ None
  pub whole : is_whole section bytes ≡ true
  pub size_is : size ≡ size_at section bytes
  pub some : 12 ≤ size
  pub there : size ≤ length bytes
  pub says : Says section said (take size bytes) (frame_of section (take size bytes)) (section_behind section (take size bytes))

abbrev pub StepGives : Section → List ℕ → BlockStep → Type 0
StepGives section bytes steps.Wait = (refusal_of section bytes ≡ None) × (is_whole section bytes ≡ false) × (length bytes ≤ 1048575)
StepGives section bytes (steps.Refused at reason) = (refusal_of section bytes ≡ Some (told at reason)) × (at ≤ length bytes)
StepGives section bytes (steps.Whole size said) = Whole section bytes size said
