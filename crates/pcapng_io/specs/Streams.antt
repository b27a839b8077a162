-- What a feed stands for: the bytes that it took and the frames that it gave.
use Rattle.std.specs.Prelude.{◌≡◌, ℕ, false, List, [], ◌∷◌, ◌++◌, length, Option, None, Some, Result, Ok, Err}
use Rattle.pcapng_io.specs.declared.frames.NgFrame.{NgFrame}
use Rattle.pcapng_io.specs.declared.frames.NgHead.{NgHead}
use Rattle.pcapng_io.specs.declared.faults.NgFault.{NgFault}
use Rattle.pcapng_io.specs.declared.faults.NgFault.TheVariants as faults
use Rattle.pcapng_io.specs.Refusals.{told}
use Rattle.pcapng_io.specs.Files.{IsPart}
use Rattle.pcapng_io.specs.Kept.{Kept}
use Rattle.pcapng_io.specs.Calls.{RefusedAt, IsHeld, lent_frame}

-- what is used is whole blocks that give the frames given, and leave the section
pub record Stands (feed : Kept) (taken : List ℕ) (given : List NgFrame) : Type 0 where
  pub sound : feed.failed ≡ false
  pub front : List ℕ
  pub part : IsPart front feed.section given
  pub joined : taken ≡ front ++ feed.rest
  pub used : feed.place ≡ length front

-- what the feed stands for after it has lent a frame, or none; after want of memory it stands for nothing
abbrev pub NextLent : Result (Option NgHead) NgFault → Kept → List ℕ → List NgFrame → Type 0
NextLent (Ok (Some head)) feed taken given = Stands feed taken (given ++ lent_frame head feed ∷ [])
NextLent (Ok None) feed taken given = Stands feed taken given × IsHeld feed
NextLent (Err (faults.Bad place reason)) feed taken given = Stands feed taken given × RefusedAt feed (told place reason)
NextLent (Err faults.OutOfMemory) feed taken given = Unit {0}

-- what it stands for after it has given a frame, or none
abbrev pub Next : Result (Option NgFrame) NgFault → Kept → List ℕ → List NgFrame → Type 0
Next (Ok (Some frame)) feed taken given = Stands feed taken (given ++ frame ∷ [])
Next (Ok None) feed taken given = Stands feed taken given × IsHeld feed
Next (Err (faults.Bad place reason)) feed taken given = Stands feed taken given × RefusedAt feed (told place reason)
Next (Err faults.OutOfMemory) feed taken given = Unit {0}
