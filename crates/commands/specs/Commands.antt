-- What a call of any command says: of its words, of its ports, and of its answer.
use Rattle.std.specs.Prelude.{◌≡◌, ◌≢◌, ◌⊎◌, ◌↔◌, ℕ, ◌<◌, ◌≤◌, Bool, true, List, Option, Some, None, length}
use Rattle.sfc_desk.specs.declared.ports.Port.{Port}
use Rattle.sfc_desk.specs.Desks.{Shown, Files, Rose, IsAbsent}
use Rattle.commands.specs.declared.statuses.Status.{Status}
use Rattle.commands.specs.declared.statuses.Status.TheVariants as status
use Rattle.commands.specs.Places.{Place, HasPort, OnlyPlaced, OpensInOrder}

-- a call on a port of the row failed: its count rose, or the desk tells its names and has no such input
pub record FailsAs (row : List Place) (tells : Bool) (held : Files) (then now : Port → Shown) (port : Port) : Type 0 where
  pub name : List ℕ
  pub named : HasPort row port name
  pub cause : IsAbsent tells held port name ⊎ Rose (then port) (now port)

-- no count of faults rose
abbrev pub NoneRose : (Port → Shown) → (Port → Shown) → Type 0
NoneRose then now = (port : Port) → Rose (then port) (now port) → ⊥

-- what every answer but Words says of the ports, whatever the command
pub record Behaves (row : List Place) (tells : Bool) (held : Files) (then now : Port → Shown) (answer : Status) : Type 0 where
  pub opens_in_order : OpensInOrder row tells then now
  -- File comes only where a call on the port failed
  pub fails : (port : Port) → answer ≡ status.File port → FailsAs row tells held then now port
  -- no count changes but that of the port that File names
  pub counts : (port : Port) → answer ≢ status.File port → (now port).faults ≡ (then port).faults
  pub only : OnlyPlaced row then now

-- What one input asks for, before anything else is read: it is not there, it is longer than its limit, or its bytes ask for
-- the answer. Where a command reads an input whole before the next one, this stands inside what the first input's bytes ask.
abbrev pub Asks : Port → ℕ → (List ℕ → Status → Type 0) → Option (List ℕ) → Status → Type 0
Asks port limit Judged None answer = answer ≡ status.File port
Asks port limit Judged (Some input) answer =
    ((limit < length input) × (answer ≡ status.Long port)) ⊎ ((length input ≤ limit) × Judged input answer)

-- what a call with these words says, whether they are those of the command or not
pub record CommandCall {Said : Type 0} (Is : List (List ℕ) → Said → Type 0) (row : Said → List Place) (Runs : Said → Bool → Files → (Port → Shown) → (Port → Shown) → Status → Type 0) (Wants : Said → Files → Status → Type 0) (words : List (List ℕ)) (tells : Bool) (held : Files) (then now : Port → Shown) (answer : Status) : Type 0 where
  -- Words comes exactly where the words are not those of the command
  pub words_fault : (answer ≡ status.Words) ↔ ((said : Said) → Is words said → ⊥)
  -- each answer has its cause, and says what was written
  pub runs : (said : Said) → Is words said → Runs said tells held then now answer
  pub behaves : (said : Said) → Is words said → Behaves (row said) tells held then now answer
  -- at Words no port is touched
  pub untouched : answer ≡ status.Words → (port : Port) → now port ≡ then port
  -- what the files ask for is the answer, where the desk tells, no call failed and memory was there
  pub exact : (said : Said) (wanted : Status) → Is words said → Wants said held wanted → tells ≡ true → NoneRose then now → answer ≢ status.Memory → answer ≡ wanted
