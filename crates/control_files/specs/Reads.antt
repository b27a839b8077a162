-- What a reader of bytes gets, in whatever pieces they come: the whole segments, and where and why there are no more.
use Rattle.std.specs.Prelude.{◌≡◌, ◌≢◌, ◌⊎◌, ℕ, List, [], ◌++◌, length, Option, None, Some, Result, Ok, Err}
use Rattle.control_files.specs.declared.segments.Segment.{Segment}
use Rattle.control_files.specs.declared.segments.Mark.{Mark}
use Rattle.control_files.specs.declared.reasons.Refusal.{Refusal}
use Rattle.control_files.specs.declared.reasons.ControlReason.TheVariants as reasons
use Rattle.control_files.specs.declared.reasons.ControlFault.{ControlFault}
use Rattle.control_files.specs.declared.reasons.ControlFault.TheVariants as faults
use Rattle.control_files.specs.Segments.{IsControl, mark_behind, start}
use Rattle.control_files.specs.Refusals.{told, refusal_of, Held}

-- the bytes, of which there are so many, end in a segment
abbrev pub IsShortAt : ℕ → Refusal → Type 0
IsShortAt size r = r ≡ told size reasons.Short

pub record EndsShort (peers : List ℕ) (mark : Mark) (rest : List ℕ) (place size : ℕ) (r : Refusal) : Type 0 where
  pub held : Held peers mark place rest
  pub misses : rest ≢ []
  pub is : IsShortAt size r

-- behind the mark, from the place on, the bytes end; or they are refused, or end short
abbrev pub EndsIn : List ℕ → Mark → List ℕ → ℕ → ℕ → Option Refusal → Type 0
EndsIn peers mark rest place size None = rest ≡ []
EndsIn peers mark rest place size (Some r) = (refusal_of peers mark place rest ≡ Some r) ⊎ EndsShort peers mark rest place size r

-- a reader of the bytes gets these segments of these peers, and then this refusal or none
pub record ReadsControl (bytes : List ℕ) (peers : List ℕ) (segments : List Segment) (stop : Option Refusal) : Type 0 where
  pub front : List ℕ
  pub rest : List ℕ
  pub is_control : IsControl front peers segments
  pub joined : bytes ≡ front ++ rest
  pub ends : EndsIn peers (mark_behind start segments) rest (length front) (length bytes) stop

-- what a feed that took the bytes and gave the segments answers at their end
abbrev pub Finishes : Result (Unit {0}) ControlFault → List ℕ → List ℕ → List Segment → Type 0
Finishes (Ok done) bytes peers segments = ReadsControl bytes peers segments None
Finishes (Err (faults.Bad place reason)) bytes peers segments = ReadsControl bytes peers segments (Some (told place reason))
Finishes (Err faults.OutOfMemory) bytes peers segments = ⊥
