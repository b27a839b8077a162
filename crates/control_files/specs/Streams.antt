-- What a feed stands for: the bytes that it took and the segments that it gave.
use Rattle.std.specs.Prelude.{◌≡◌, ℕ, false, List, [], ◌∷◌, ◌++◌, length, Option, None, Some, Result, Ok, Err}
use Rattle.control_files.specs.declared.segments.Segment.{Segment}
use Rattle.control_files.specs.declared.segments.SegmentHead.{SegmentHead}
use Rattle.control_files.specs.declared.reasons.Refusal.{Refusal}
use Rattle.control_files.specs.declared.reasons.ControlFault.{ControlFault}
use Rattle.control_files.specs.declared.reasons.ControlFault.TheVariants as faults
use Rattle.control_files.specs.Segments.{IsControl, mark_behind, start}
use Rattle.control_files.specs.Refusals.{told}
use Rattle.control_files.specs.Kept.{Kept}
use Rattle.control_files.specs.Calls.{RefusedAt, IsHeld, lent_segment}

-- what is used is a control file of the segments given, and the mark is that of the last one
pub record Stands (feed : Kept) (taken : List ℕ) (given : List Segment) : Type 0 where
  pub sound : feed.failed ≡ false
  pub front : List ℕ
  pub is_control : IsControl front feed.peers given
  pub joined : taken ≡ front ++ feed.rest
  pub used : feed.place ≡ length front
  pub mark : feed.mark ≡ mark_behind start given

-- what the feed stands for after it has lent a segment, or none
abbrev pub NextLent : Result (Option SegmentHead) Refusal → Kept → List ℕ → List Segment → Type 0
NextLent (Ok (Some head)) feed taken given = Stands feed taken (given ++ lent_segment head feed ∷ [])
NextLent (Ok None) feed taken given = Stands feed taken given × IsHeld feed
NextLent (Err r) feed taken given = Stands feed taken given × RefusedAt feed r

-- what it stands for after it has given a segment, or none; after want of memory it stands for nothing
abbrev pub Next : Result (Option Segment) ControlFault → Kept → List ℕ → List Segment → Type 0
Next (Ok (Some segment)) feed taken given = Stands feed taken (given ++ segment ∷ [])
Next (Ok None) feed taken given = Stands feed taken given × IsHeld feed
Next (Err (faults.Bad place reason)) feed taken given = Stands feed taken given × RefusedAt feed (told place reason)
Next (Err faults.OutOfMemory) feed taken given = Unit {0}
