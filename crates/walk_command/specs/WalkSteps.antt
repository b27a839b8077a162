-- Where the walk of a capture stands between its steps.
use Rattle.std.specs.Prelude.{◌≡◌, ◌⊎◌, ℕ, ◌<◌, ◌≤◌, ◌^◌, Bool, true, List, [], ◌++◌, length, Option, None, Some, Result, Ok, Err}
use Rattle.sfc_desk.specs.Desks.{Shown, Rose}
use Rattle.sfc_desk.specs.declared.ports.Port.{Port}
use Rattle.sfc_desk.specs.declared.ports.Port.TheVariants as ports
use Rattle.commands.specs.declared.statuses.Status.{Status}
use Rattle.commands.specs.declared.statuses.Status.TheVariants as status
use Rattle.pcap_io.specs.declared.forms.Form.{Form}
use Rattle.pcap_io.specs.declared.frames.Captured.{Captured}
use Rattle.pcap_io.specs.declared.reasons.Refusal.{Refusal}
use Rattle.pcap_io.specs.declared.reasons.CaptureReason.TheVariants as reasons
use Rattle.pcap_io.specs.Kept.{Kept}
use Rattle.pcap_io.specs.Refusals.{told}
use Rattle.pcap_io.specs.Calls.{HeldIn, RefusedAt}
use Rattle.pcap_io.specs.Streams.{Stands}
use Rattle.pcap_io.specs.Egress.{egress_of}
use Rattle.commands.specs.declared.writing.WriteFault.{WriteFault}
use Rattle.commands.specs.declared.writing.WriteFault.TheVariants as write
use Rattle.record_text.specs.declared.records.End.{End}
use Rattle.record_text.specs.declared.records.End.TheVariants.{Egress}
use Rattle.static_walks.specs.declared.walks.StaticPath.{StaticPath}
use Rattle.walk_command.specs.declared.walk_streams.WalkFault.{WalkFault}
use Rattle.walk_command.specs.declared.walk_streams.WalkFault.TheVariants as fault
use Rattle.walk_command.specs.declared.walk_words.WalkWords.{WalkWords}
use Rattle.walk_command.specs.WalkCommand.{Walk, WalksOf, Writes, WroteFront, BeginsWithFrames, leaving_of}

-- what the words of `walk` say, as the program keeps it
abbrev pub walk_of : WalkWords → Walk
walk_of said = record { spi = said.path.spi; count = said.path.count; capture = said.capture.now; egress = said.egress.now }

-- what a packet leaves where its frame's walk ended so: all of it, or nothing
abbrev pub kept_at : End → List ℕ → List ℕ
kept_at Egress packet = packet
kept_at _ packet = []

-- a write failed, or there was no memory
abbrev pub IsWalkFault : WriteFault → WalkFault → Type 0
IsWalkFault write.File e = e ≡ fault.Write
IsWalkFault write.OutOfMemory e = e ≡ fault.OutOfMemory

-- and what each says of the port's count of faults
abbrev pub IsPutFault : Result (Unit {0}) WalkFault → Shown → Shown → Type 0
IsPutFault (Err fault.Write) then now = Rose then now
IsPutFault (Err fault.OutOfMemory) then now = now.faults ≡ then.faults
IsPutFault _ then now = ⊥

-- nothing was lost on the way to the output: an answer, or a refusal of the capture
abbrev pub NoWriteFault : {T : Type 0} → Result T WalkFault → Type 0
NoWriteFault (Ok x) = Unit {0}
NoWriteFault (Err (fault.Capture r)) = Unit {0}
NoWriteFault (Err _) = ⊥

-- the fault is none of the input's
abbrev pub NeverReads : {T : Type 0} → Result T WalkFault → Type 0
NeverReads (Err fault.Read) = ⊥
NeverReads (Err fault.Long) = ⊥
NeverReads _ = Unit {0}

-- the fault is one of a read, or there was no memory
abbrev pub NeverPuts : {T : Type 0} → Result T WalkFault → Type 0
NeverPuts (Err fault.Write) = ⊥
NeverPuts (Err fault.Long) = ⊥
NeverPuts (Err (fault.Capture r)) = ⊥
NeverPuts _ = Unit {0}

-- the feed took the input up to what is left of it, and gave these frames
pub record Follows (feed : Kept) (input left : List ℕ) (given : List Captured) : Type 0 where
  pub taken : List ℕ
  pub joined : taken ++ left ≡ input
  pub stands : Stands feed taken given

-- what was written and what waits is what the frames given leave
pub record State (path : StaticPath) (input left out : List ℕ) (feed : Kept) : Type 0 where
  pub given : List Captured
  pub ends : List End
  pub follows : Follows feed input left given
  pub walked : WalksOf path.spi path.count given ends
  pub out_is : out ≡ egress_of feed.form given (leaving_of given ends)

abbrev pub Fronts : StaticPath → (input written : List ℕ) → Type 0
Fronts path input written = WroteFront path.spi path.count input written

-- what asking for the file header came to
abbrev pub Begins : StaticPath → (input left out written : List ℕ) → Kept → Result (Option Form) WalkFault → Type 0
Begins path input left out written feed (Ok (Some form)) = State path input left out feed × (feed.form ≡ Some form)
Begins path input left out written feed (Ok None) = State path input left out feed × HeldIn feed.form feed.rest
Begins path input left out written feed (Err (fault.Capture r)) = State path input left out feed × RefusedAt feed r
Begins path input left out written feed (Err _) = Fronts path input written

-- what the whole frames at hand came to
abbrev pub Puts : StaticPath → (input left out written : List ℕ) → Kept → Result (Unit {0}) WalkFault → Type 0
Puts path input left out written feed (Ok done) = State path input left out feed × HeldIn feed.form feed.rest
Puts path input left out written feed (Err (fault.Capture r)) = State path input left out feed × RefusedAt feed r
Puts path input left out written feed (Err _) = Fronts path input written

-- what the pieces came to
abbrev pub Reaches : StaticPath → (input left out written : List ℕ) → Kept → Result (Unit {0}) WalkFault → Type 0
Reaches path input left out written feed (Ok done) = State path input left out feed × HeldIn feed.form feed.rest × (left ≡ [])
Reaches path input left out written feed (Err (fault.Capture r)) = State path input left out feed × RefusedAt feed r
Reaches path input left out written feed (Err fault.Long) = (2 ^ 40 < length input) × Fronts path input written
Reaches path input left out written feed (Err _) = Fronts path input written

-- what is known of the frames given, where all that waits is to be written
pub record Known (path : StaticPath) (input out : List ℕ) (stop : Option Refusal) : Type 0 where
  pub writes : Writes path.spi path.count input stop out
  pub begins : BeginsWithFrames writes.form input writes.frames

-- what ends short was read to its end, within the limit
abbrev pub IsShortWithin : Refusal → List ℕ → Type 0
IsShortWithin r input = r.reason ≡ reasons.Short → length input ≤ 2 ^ 40

-- what the walk of an input came to
abbrev pub Ends : StaticPath → (input left written : List ℕ) → Result (Unit {0}) WalkFault → Type 0
Ends path input left written (Ok done) = (length input ≤ 2 ^ 40) × (left ≡ []) × Writes path.spi path.count input None written
Ends path input left written (Err (fault.Capture r)) = Writes path.spi path.count input (Some r) written × IsShortWithin r input
Ends path input left written (Err fault.Long) = (2 ^ 40 < length input) × Fronts path input written
Ends path input left written (Err _) = Fronts path input written

-- the status that tells an outcome
abbrev pub answer_of : Result (Unit {0}) WalkFault → Status
answer_of (Ok done) = status.Ok
answer_of (Err fault.Read) = status.File ports.Capture
answer_of (Err fault.Write) = status.File ports.Egress
answer_of (Err (fault.Capture r)) = status.Capture r.place r.reason
answer_of (Err fault.Long) = status.Long ports.Capture
answer_of (Err fault.OutOfMemory) = status.Memory

-- what was read of the capture
abbrev pub input_of : (Port → Shown) → List ℕ
input_of then = (then ports.Capture).left

-- what each answer says of the bound capture and the bound egress
abbrev pub WalkWorks : Walk → Bool → (Port → Shown) → (Port → Shown) → Status → Type 0
WalkWorks walk tells then now status.Ok =
    tells ≡ true → (length (input_of then) ≤ 2 ^ 40) × (input_of now ≡ []) × Writes walk.spi walk.count (input_of then) None (now ports.Egress).written
WalkWorks walk tells then now (status.Capture place reason) =
    tells ≡ true → Writes walk.spi walk.count (input_of then) (Some (told place reason)) (now ports.Egress).written × IsShortWithin (told place reason) (input_of then)
WalkWorks walk tells then now (status.Long port) =
    (port ≡ ports.Capture) × (tells ≡ true → (2 ^ 40 < length (input_of then)) × WroteFront walk.spi walk.count (input_of then) (now ports.Egress).written)
WalkWorks walk tells then now (status.File port) =
    (((port ≡ ports.Capture) ⊎ (port ≡ ports.Egress)) × Rose (then port) (now port))
    × (tells ≡ true → WroteFront walk.spi walk.count (input_of then) (now ports.Egress).written)
WalkWorks walk tells then now status.Memory = tells ≡ true → WroteFront walk.spi walk.count (input_of then) (now ports.Egress).written
WalkWorks walk tells then now _ = ⊥
