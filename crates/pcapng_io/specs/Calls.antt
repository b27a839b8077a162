-- What stands at the front of a feed's rest.
use Rattle.std.specs.Prelude.{◌≡◌, ◌⊎◌, ℕ, true, ◌+◌, ◌≤◌, List, ◌++◌, length, Option, None, Some, Result, Ok, Err}
use Rattle.pcapng_io.specs.declared.frames.NgFrame.{NgFrame}
use Rattle.pcapng_io.specs.declared.frames.NgHead.{NgHead}
use Rattle.pcapng_io.specs.declared.faults.NgRefusal.{NgRefusal}
use Rattle.pcapng_io.specs.declared.faults.NgFault.{NgFault}
use Rattle.pcapng_io.specs.declared.faults.NgFault.TheVariants as faults
use Rattle.pcapng_io.specs.declared.feeds.Taken.{Taken}
use Rattle.pcapng_io.specs.declared.feeds.Taken.TheVariants as taken
use Rattle.pcapng_io.specs.Sections.{frame_of, section_behind}
use Rattle.pcapng_io.specs.Refusals.{told, refusal_of, refused_from, Held}
use Rattle.pcapng_io.specs.Files.{IsBlock}
use Rattle.pcapng_io.specs.Steps.{frame_with}
use Rattle.pcapng_io.specs.Kept.{Kept}

-- the frame that was given with this head, out of the block that is lent
abbrev pub lent_frame : NgHead → Kept → NgFrame
lent_frame head feed = frame_with head feed.lent

-- what stands at the front of the rest is refused
abbrev pub RefusedAt : Kept → NgRefusal → Type 0
RefusedAt feed t = refused_from feed.section feed.place feed.rest ≡ Some t

-- it is not refused, and not whole
abbrev pub IsHeld : Kept → Type 0
IsHeld feed = Held feed.section feed.rest

-- nothing whole stands at the front that is not refused
abbrev pub IsQuiet : Kept → Type 0
IsQuiet feed = IsHeld feed ⊎ ((t : NgRefusal) × RefusedAt feed t)

-- why no frame is given: what stands at the front is refused, or there was no memory
abbrev pub IsStop : Kept → NgFault → Type 0
IsStop feed (faults.Bad place reason) = RefusedAt feed (told place reason)
IsStop feed faults.OutOfMemory = feed.failed ≡ true

-- ---- one block

-- a block at the front of the rest is used up, and gave this frame or none
pub record Uses (old new : Kept) (frame : Option NgFrame) : Type 0 where
  pub block : List ℕ
  pub is : IsBlock old.section block
  pub rest : old.rest ≡ block ++ new.rest
  pub place : new.place ≡ old.place + length block
  pub section : new.section ≡ section_behind old.section block
  pub gives : frame ≡ frame_of old.section block
  pub failed : new.failed ≡ old.failed

-- something was taken
abbrev pub IsProgress : Taken → Type 0
IsProgress taken.Wait = ⊥
IsProgress _ = Unit {0}

abbrev pub TakesBlock : Kept → Kept → Result Taken NgFault → Type 0
TakesBlock old new (Ok taken.Wait) = IsHeld old × (new ≡ old)
TakesBlock old new (Ok taken.Skipped) = Uses old new None
TakesBlock old new (Ok (taken.Frame head)) = Uses old new (Some (lent_frame head new)) × (head.from + head.captured ≤ length new.lent)
TakesBlock old new (Err (faults.Bad place reason)) = RefusedAt old (told place reason) × (new ≡ old)
TakesBlock old new (Err faults.OutOfMemory) = (new.failed ≡ true) × (refusal_of old.section old.rest ≡ None)
