-- Where a conversion stands between its steps, by what its converter has turned.
use Rattle.std.specs.Prelude.{◌≡◌, ◌≢◌, ◌⊎◌, ℕ, ◌<◌, ◌≤◌, ◌^◌, Bool, true, false, List, [], ◌++◌, length, Result, Ok, Err}
use Rattle.sfc_desk.specs.Desks.{Shown, Rose}
use Rattle.sfc_desk.specs.declared.ports.Port.{Port}
use Rattle.commands.specs.declared.statuses.Status.{Status}
use Rattle.commands.specs.declared.statuses.Status.TheVariants as status
use Rattle.commands.specs.Fronts.{IsFront}
use Rattle.commands.specs.Pieces.{NoneBound, SameCounts}
use Rattle.frame_streams.specs.Streams.{IsAtEnd}

-- one output for an input and an answer
abbrev pub OutputRelation : Type 1
OutputRelation = List ℕ → Status → List ℕ → Type 0

-- ---- one call of a converter

-- what was made of these bytes is a front of all that is written, whatever comes behind them
abbrev pub IsFrontFor : OutputRelation → List ℕ → List ℕ → Type 0
IsFrontFor Writes taken out = (left : List ℕ) (answer : Status) (all : List ℕ) → Writes (taken ++ left) answer all → IsFront out all

-- a refusal: whatever comes behind, so is answered, and this is written; it is none of the input's end
pub record Stops (Writes : OutputRelation) (taken out : List ℕ) (answer : Status) : Type 0 where
  pub written : (left : List ℕ) → Writes (taken ++ left) answer out
  pub front : IsFrontFor Writes taken out
  pub on_the_way : IsAtEnd answer → ⊥

-- what the next part came to; after want of memory nothing is said
abbrev pub NextSays : (List ℕ → Type 0) → Type 0 → OutputRelation → List ℕ → List ℕ → Result Bool Status → Type 0
NextSays Turned Quiet Writes taken out (Ok more) = Turned out × IsFrontFor Writes taken out × (more ≡ false → Quiet)
NextSays Turned Quiet Writes taken out (Err (status.Capture place reason)) = Stops Writes taken out (status.Capture place reason)
NextSays Turned Quiet Writes taken out (Err (status.Pcapng place reason)) = Stops Writes taken out (status.Pcapng place reason)
NextSays Turned Quiet Writes taken out (Err status.Memory) = Unit {0}
NextSays Turned Quiet Writes taken out (Err _) = ⊥

-- it stops for a refusal, or for want of memory
abbrev pub IsStop : Status → Type 0
IsStop (status.Capture place reason) = Unit {0}
IsStop (status.Pcapng place reason) = Unit {0}
IsStop status.Memory = Unit {0}
IsStop _ = ⊥

-- how an input ends
abbrev pub EndSays : OutputRelation → List ℕ → List ℕ → Status → Type 0
EndSays Writes taken out status.Ok = Writes taken status.Ok out
EndSays Writes taken out (status.Capture place reason) = Writes taken (status.Capture place reason) out
EndSays Writes taken out (status.Pcapng place reason) = Writes taken (status.Pcapng place reason) out
EndSays Writes taken out status.Memory = Unit {0}
EndSays Writes taken out _ = ⊥

abbrev pub IsEnd : Status → Type 0
IsEnd status.Ok = Unit {0}
IsEnd answer = IsStop answer

-- ---- the steps of a conversion

-- Of the input, of which so much is left, what was written and what waits was made, and it is a front of all that is written. The
-- words of the command stay what they are. A desk that does not tell says of neither output nor input which bytes they are.
pub record StandsAt {Said : Type 0} (Writes : Said → OutputRelation) (words said : Said) (Turned : List ℕ → List ℕ → Type 0) (count : ℕ) (tells : Bool) (input left written waits : List ℕ) : Type 0 where
  pub same : said ≡ words
  pub taken : List ℕ
  pub put : List ℕ
  pub turned : Turned taken (put ++ waits)
  pub front : IsFrontFor (Writes words) taken (put ++ waits)
  pub size : count ≡ length taken
  pub joined : tells ≡ true → taken ++ left ≡ input
  pub put_is : tells ≡ true → put ≡ written

-- what was written is a front of all that is written for the input
abbrev pub FrontOfAll : OutputRelation → List ℕ → List ℕ → Type 0
FrontOfAll Writes input written = (answer : Status) (all : List ℕ) → Writes input answer all → IsFront written all

-- why a step is not done, and what was made then
abbrev pub Breaks : OutputRelation → (input out written : List ℕ) → Status → Type 0
Breaks Writes input out written (status.Capture place reason) =
    Writes input (status.Capture place reason) out × FrontOfAll Writes input out × (IsAtEnd (status.Capture place reason) → ⊥)
Breaks Writes input out written (status.Pcapng place reason) =
    Writes input (status.Pcapng place reason) out × FrontOfAll Writes input out × (IsAtEnd (status.Pcapng place reason) → ⊥)
Breaks Writes input out written (status.Long port) = (2 ^ 40 < length input) × FrontOfAll Writes input written
Breaks Writes input out written (status.File port) = FrontOfAll Writes input written
Breaks Writes input out written status.Memory = FrontOfAll Writes input written
Breaks Writes input out written _ = ⊥

-- ---- the counts of faults

-- a call on the port failed, which is one of these: its count rose, and no other changed
pub record FailsOn (IsOwn : Port → Type 0) (then now : Port → Shown) (port : Port) : Type 0 where
  pub own : IsOwn port
  pub rose : Rose (then port) (now port)
  pub others : (other : Port) → other ≢ port → (now other).faults ≡ (then other).faults

-- why no piece was read
abbrev pub ReadStops : Port → (Port → Shown) → (Port → Shown) → Status → Type 0
ReadStops input then now (status.File port) = FailsOn (λ own. own ≡ input) then now port
ReadStops input then now (status.Long port) = (port ≡ input) × SameCounts then now
ReadStops input then now status.Memory = SameCounts then now
ReadStops input then now _ = ⊥

-- why what waits was not written
abbrev pub WriteStops : Port → (Port → Shown) → (Port → Shown) → Status → Type 0
WriteStops output then now (status.File port) = FailsOn (λ own. own ≡ output) then now port
WriteStops output then now _ = ⊥

-- what an answer says of the counts, where calls were made on these ports, and these may be too long
abbrev pub Counts : (Port → Type 0) → (Port → Type 0) → (Port → Shown) → (Port → Shown) → Status → Type 0
Counts IsOwn IsLong then now status.Ok = SameCounts then now
Counts IsOwn IsLong then now (status.File port) = FailsOn IsOwn then now port
Counts IsOwn IsLong then now (status.Capture place reason) = SameCounts then now
Counts IsOwn IsLong then now (status.Pcapng place reason) = SameCounts then now
Counts IsOwn IsLong then now (status.Long port) = IsLong port × SameCounts then now
Counts IsOwn IsLong then now status.Memory = SameCounts then now
Counts IsOwn IsLong then now _ = ⊥

-- it is one of these two
abbrev pub IsEither : Port → Port → Port → Type 0
IsEither input output port = (port ≡ input) ⊎ (port ≡ output)

-- ---- the end

-- what is told at the end of the input or where that is refused, before what waits is written
abbrev pub Told : OutputRelation → (whole left out written : List ℕ) → Status → Type 0
Told Writes whole left out written status.Ok = Writes whole status.Ok out × (length whole ≤ 2 ^ 40) × (left ≡ [])
Told Writes whole left out written (status.Capture place reason) =
    Writes whole (status.Capture place reason) out × (IsAtEnd (status.Capture place reason) → length whole ≤ 2 ^ 40)
Told Writes whole left out written (status.Pcapng place reason) =
    Writes whole (status.Pcapng place reason) out × (IsAtEnd (status.Pcapng place reason) → length whole ≤ 2 ^ 40)
Told Writes whole left out written (status.Long port) = (2 ^ 40 < length whole) × FrontOfAll Writes whole written
Told Writes whole left out written (status.File port) = FrontOfAll Writes whole written
Told Writes whole left out written status.Memory = FrontOfAll Writes whole written
Told Writes whole left out written _ = ⊥

-- all that was made is then to be written
abbrev pub is_told : Status → Bool
is_told status.Ok = true
is_told (status.Capture place reason) = true
is_told (status.Pcapng place reason) = true
is_told _ = false

-- what waited was written and it is answered so, or that failed; or it was not to be written
pub data Ends (output : Port) (tells : Bool) (then now : Port → Shown) (waits : List ℕ) (answer result : Status) : Type 0 where
  wrote_all : is_told answer ≡ true → result ≡ answer → (tells ≡ true → (now output).written ≡ (then output).written ++ waits) → SameCounts then now → Ends output tells then now waits answer result
  wrote_front : is_told answer ≡ true → result ≡ status.File output → (tells ≡ true → IsFront (now output).written ((then output).written ++ waits)) → FailsOn (λ own. own ≡ output) then now output → Ends output tells then now waits answer result
  wrote_none : is_told answer ≡ false → result ≡ answer → now ≡ then → Ends output tells then now waits answer result

-- ---- the whole conversion

-- what each answer says, where the one port is read and the other written
abbrev pub Works : OutputRelation → Port → Port → (Port → Shown) → (Port → Shown) → Status → Type 0
Works Writes input output then now answer = Told Writes (then input).left (now input).left (now output).written (now output).written answer

-- and of the ports
pub record Converts (Writes : OutputRelation) (input output : Port) (tells : Bool) (then now : Port → Shown) (answer : Status) : Type 0 where
  pub works : tells ≡ true → Works Writes input output then now answer
  pub counts : Counts (IsEither input output) (λ port. port ≡ input) then now answer
  pub none_bound : NoneBound tells then now
  pub others : (port : Port) → port ≢ input → port ≢ output → now port ≡ then port
