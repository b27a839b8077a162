-- What a reader of bytes gets, in whatever pieces they come: the whole frames, and where and why there are no more.
use Rattle.std.specs.Prelude.{◌≡◌, ◌≢◌, ℕ, ◌⊎◌, List, [], ◌++◌, length, Option, None, Some, Result, Ok, Err}
use Rattle.pcap_io.specs.declared.forms.Form.{Form}
use Rattle.pcap_io.specs.declared.frames.Captured.{Captured}
use Rattle.pcap_io.specs.declared.reasons.Refusal.{Refusal}
use Rattle.pcap_io.specs.declared.reasons.CaptureFault.{CaptureFault}
use Rattle.pcap_io.specs.declared.reasons.CaptureFault.TheVariants as faults
use Rattle.pcap_io.specs.declared.reasons.CaptureReason.TheVariants as reasons
use Rattle.pcap_io.specs.Captures.{IsCapture}
use Rattle.pcap_io.specs.Refusals.{told}
use Rattle.pcap_io.specs.Calls.{RefusedFrom, HeldIn}

-- something is missing: of the header, or of a packet that has begun
abbrev pub MissesIn : Option Form → List ℕ → Type 0
MissesIn None rest = Unit {0}
MissesIn (Some form) rest = rest ≢ []

-- the bytes, of which there are so many, end in the header or in a packet
abbrev pub IsShortAt : ℕ → Refusal → Type 0
IsShortAt size r = r ≡ told size reasons.Short

pub record EndsShort (form : Option Form) (rest : List ℕ) (size : ℕ) (r : Refusal) : Type 0 where
  pub held : HeldIn form rest
  pub misses : MissesIn form rest
  pub is : IsShortAt size r

-- behind what is used, which ends at the place, the bytes end; or they are refused, or end short
abbrev pub EndsIn : Option Form → List ℕ → ℕ → ℕ → Option Refusal → Type 0
EndsIn (Some form) rest place size None = rest ≡ []
EndsIn None rest place size None = ⊥
EndsIn form rest place size (Some r) = RefusedFrom form rest place r ⊎ EndsShort form rest size r

-- there is no header, so no frame
pub record ReadsNothing (bytes : List ℕ) (frames : List Captured) (stop : Option Refusal) : Type 0 where
  pub nothing : frames ≡ []
  pub ends : EndsIn None bytes 0 (length bytes) stop

-- in front a capture of these frames, and what is behind it
pub record ReadsFrames (form : Form) (bytes : List ℕ) (frames : List Captured) (stop : Option Refusal) : Type 0 where
  pub front : List ℕ
  pub rest : List ℕ
  pub is_capture : IsCapture front form frames
  pub joined : bytes ≡ front ++ rest
  pub ends : EndsIn (Some form) rest (length front) (length bytes) stop

-- a reader of the bytes gets this form and these frames, and then this refusal or none
abbrev pub Reads : List ℕ → Option Form → List Captured → Option Refusal → Type 0
Reads bytes None frames stop = ReadsNothing bytes frames stop
Reads bytes (Some form) frames stop = ReadsFrames form bytes frames stop

-- what a feed that took the bytes and gave the frames answers at their end
abbrev pub Finishes : Result (Unit {0}) CaptureFault → List ℕ → Option Form → List Captured → Type 0
Finishes (Ok done) bytes form frames = Reads bytes form frames None
Finishes (Err (faults.Bad place reason)) bytes form frames = Reads bytes form frames (Some (told place reason))
Finishes (Err faults.OutOfMemory) bytes form frames = ⊥
