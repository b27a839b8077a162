-- What a reader of bytes gets, in whatever pieces they come: the frames, and where and why there are no more.
use Rattle.std.specs.Prelude.{◌≡◌, ◌≢◌, ◌⊎◌, ℕ, true, List, [], ◌++◌, length, Option, None, Some, Result, Ok, Err}
use Rattle.pcapng_io.specs.declared.sections.Section.{Section}
use Rattle.pcapng_io.specs.declared.frames.NgFrame.{NgFrame}
use Rattle.pcapng_io.specs.declared.faults.NgReason.TheVariants as reasons
use Rattle.pcapng_io.specs.declared.faults.NgRefusal.{NgRefusal}
use Rattle.pcapng_io.specs.declared.faults.NgFault.{NgFault}
use Rattle.pcapng_io.specs.declared.faults.NgFault.TheVariants as faults
use Rattle.pcapng_io.specs.Sections.{start}
use Rattle.pcapng_io.specs.Refusals.{told, refused_from, Held}
use Rattle.pcapng_io.specs.Files.{IsPart, IsBlock}

-- something is missing: a block that has begun, or the first section header
abbrev pub Misses : Section → List ℕ → Type 0
Misses section rest = section.begun ≡ true → rest ≢ []

-- the bytes, of which there are so many, end in a block
abbrev pub IsShortAt : ℕ → NgRefusal → Type 0
IsShortAt size r = r ≡ told size reasons.Short

pub record EndsShort (section : Section) (rest : List ℕ) (size : ℕ) (r : NgRefusal) : Type 0 where
  pub held : Held section rest
  pub misses : Misses section rest
  pub is : IsShortAt size r

-- in the section, from the place on, the bytes end; or they are refused, or end short
abbrev pub EndsIn : Section → List ℕ → ℕ → ℕ → Option NgRefusal → Type 0
EndsIn section rest place size None = (rest ≡ []) × (section.begun ≡ true)
EndsIn section rest place size (Some r) = (refused_from section place rest ≡ Some r) ⊎ EndsShort section rest size r

-- a reader of the bytes gets these frames, and then this refusal or none
pub record Reads (bytes : List ℕ) (frames : List NgFrame) (stop : Option NgRefusal) : Type 0 where
  pub section : Section
  pub front : List ℕ
  pub rest : List ℕ
  pub part : IsPart front section frames
  pub joined : bytes ≡ front ++ rest
  pub ends : EndsIn section rest (length front) (length bytes) stop

-- what a feed that took the bytes and gave the frames answers at their end
abbrev pub Finishes : Result (Unit {0}) NgFault → List ℕ → List NgFrame → Type 0
Finishes (Ok done) bytes frames = Reads bytes frames None
Finishes (Err (faults.Bad place reason)) bytes frames = Reads bytes frames (Some (told place reason))
Finishes (Err faults.OutOfMemory) bytes frames = ⊥

-- the bytes begin with a whole section header of which nothing is refused
pub record BeginsNg (bytes : List ℕ) : Type 0 where
  pub header : List ℕ
  pub rest : List ℕ
  pub is : IsBlock start header
  pub joined : bytes ≡ header ++ rest
