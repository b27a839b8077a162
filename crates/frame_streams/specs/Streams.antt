-- What a command says that turns one input into its outputs as the input comes. `Writes input answer out` is its one relation:
-- for this input it answers so, and these are the bytes of its outputs.
use Rattle.std.specs.Prelude.{◌≡◌, ◌⊎◌, ℕ, ◌^◌, ◌<◌, ◌≤◌, Bool, true, List, [], Option, Some, None, length}
use Rattle.sfc_desk.specs.declared.ports.Port.{Port}
use Rattle.sfc_desk.specs.Desks.{Shown}
use Rattle.pcap_io.specs.declared.reasons.CaptureReason.TheVariants as captures
use Rattle.pcapng_io.specs.declared.faults.NgReason.TheVariants as ngs
use Rattle.commands.specs.declared.statuses.Status.{Status}
use Rattle.commands.specs.declared.statuses.Status.TheVariants as status
use Rattle.commands.specs.Outputs.{Outputs, TookAll, TookFrontsOfEach}
use Rattle.commands.specs.Places.{Place, OpensAll}

abbrev pub Relation : Type 1
Relation = List ℕ → Status → Outputs → Type 0

-- the relation of a command that has one output
abbrev pub at_output : Port → (List ℕ → Status → List ℕ → Type 0) → Relation
at_output output Writes = λ input answer out. Writes input answer (out output)

-- it is answered where the input has no more bytes: it was whole, or ends short
abbrev pub IsAtEnd : Status → Type 0
IsAtEnd status.Ok = Unit {0}
IsAtEnd (status.Capture place reason) = reason ≡ captures.Short
IsAtEnd (status.Pcapng place reason) = reason ≡ ngs.Short
IsAtEnd _ = ⊥

-- ---- what each answer says

-- what is written for the file under the input's name, if there is one
pub record FileWrites (Writes : Relation) (found : Option (List ℕ)) (answer : Status) (out : Outputs) : Type 0 where
  pub input : List ℕ
  pub there : found ≡ Some input
  pub writes : Writes input answer out

-- whatever is answered
abbrev pub FileWritesSome : Relation → Option (List ℕ) → Outputs → Type 0
FileWritesSome Writes found out = (answer : Status) × FileWrites Writes found answer out

-- The outputs took all that is written. What is answered at the input's end is answered within the limit; where a field is refused,
-- nothing more was read.
pub record StreamDone (row : List Place) (Writes : Relation) (found : Option (List ℕ)) (then now : Port → Shown) (answer : Status) : Type 0 where
  pub out : Outputs
  pub writes : FileWrites Writes found answer out
  pub within : IsAtEnd answer → length writes.input ≤ 2 ^ 40
  pub took : TookAll row then now out

-- the outputs took fronts of what is written
abbrev pub StreamFronts : List Place → Relation → Option (List ℕ) → (Port → Shown) → (Port → Shown) → Type 0
StreamFronts row Writes found then now = TookFrontsOfEach (FileWritesSome Writes found) row then now

-- the file under the input's name has more bytes than the limit
pub record HasLong (found : Option (List ℕ)) : Type 0 where
  pub input : List ℕ
  pub there : found ≡ Some input
  pub past : 2 ^ 40 < length input

-- what each answer says, where this is found under the name of the input at the port
abbrev pub StreamRuns : Port → List Place → Relation → Option (List ℕ) → Bool → (Port → Shown) → (Port → Shown) → Status → Type 0
StreamRuns port row Writes found tells then now status.Ok =
    OpensAll row tells then now × (tells ≡ true → StreamDone row Writes found then now status.Ok × ((now port).left ≡ []))
StreamRuns port row Writes found tells then now (status.Capture place reason) =
    OpensAll row tells then now × (tells ≡ true → StreamDone row Writes found then now (status.Capture place reason))
StreamRuns port row Writes found tells then now (status.Pcapng place reason) =
    OpensAll row tells then now × (tells ≡ true → StreamDone row Writes found then now (status.Pcapng place reason))
StreamRuns port row Writes found tells then now (status.Long own) =
    (own ≡ port) × OpensAll row tells then now × (tells ≡ true → HasLong found × StreamFronts row Writes found then now)
StreamRuns port row Writes found tells then now (status.File own) = tells ≡ true → StreamFronts row Writes found then now
StreamRuns port row Writes found tells then now status.Memory = tells ≡ true → StreamFronts row Writes found then now
StreamRuns port row Writes found tells then now _ = ⊥

-- ---- what the input asks for

-- no field of the input is refused: it is read whole, or ends short
abbrev pub NoFieldRefused : Relation → List ℕ → Type 0
NoFieldRefused Writes input = (answer : Status) (out : Outputs) → Writes input answer out → IsAtEnd answer

-- Of a file with more bytes than the limit a field may be refused before the limit is crossed or not, as the pieces come; so Long is
-- asked for where no field is refused.
abbrev pub StreamWants : Port → Relation → Option (List ℕ) → Status → Type 0
StreamWants port Writes None answer = answer ≡ status.File port
StreamWants port Writes (Some input) answer =
    ((2 ^ 40 < length input) × NoFieldRefused Writes input × (answer ≡ status.Long port))
    ⊎ ((length input ≤ 2 ^ 40) × ((out : Outputs) × Writes input answer out))

-- one input asks for one answer
abbrev pub AnswersOnce : Relation → Type 0
AnswersOnce Writes = (input : List ℕ) (a b : Status) (out other : Outputs) → Writes input a out → Writes input b other → a ≡ b
