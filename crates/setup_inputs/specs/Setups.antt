-- What a command that stands on a setup says of it: the file under its name, and how a call ends where it spells no setup.
use Rattle.std.specs.Prelude.{◌≡◌, ◌⊎◌, ℕ, ◌<◌, ◌≤◌, Bool, true, List, [], ◌∷◌, Option, Some, length}
use Rattle.sfc_desk.specs.declared.ports.Port.{Port}
use Rattle.sfc_desk.specs.declared.ports.Port.TheVariants as ports
use Rattle.sfc_desk.specs.Desks.{Shown, Files}
use Rattle.sfc_config.specs.declared.faults.SetupReason.{SetupReason}
use Rattle.sfc_config.specs.Parts.{Parts}
use Rattle.sfc_config.specs.Texts.{IsSetup, IsRefused}
use Rattle.commands.specs.declared.statuses.Status.{Status}
use Rattle.commands.specs.declared.statuses.Status.TheVariants as status
use Rattle.commands.specs.Commands.{Asks}
use Rattle.commands.specs.Places.{Place, opens, IsOpened, OnlyPlaced}

-- the first place of the row of a command that stands on a setup
abbrev pub setup_place : List ℕ → Place
setup_place name = opens ports.Setup name

-- ---- what is under the name

-- a text of at most 1,048,576 bytes, which spells the setup
pub record HoldsSetup (name : List ℕ) (held : Files) (setup : Parts) : Type 0 where
  pub text : List ℕ
  pub there : held name ≡ Some text
  pub within : length text ≤ 1048576
  pub spelled : IsSetup text setup

-- one that is refused at this line for this reason
pub record HoldsRefused (name : List ℕ) (held : Files) (line : ℕ) (reason : SetupReason) : Type 0 where
  pub text : List ℕ
  pub there : held name ≡ Some text
  pub within : length text ≤ 1048576
  pub refused : IsRefused text line reason

-- more bytes than that
pub record HoldsLong (name : List ℕ) (held : Files) : Type 0 where
  pub text : List ℕ
  pub there : held name ≡ Some text
  pub past : 1048576 < length text

-- ---- what a call says

-- why a call ends with this answer before it has a setup; where Setup failed is for the clause of every command's ports
abbrev pub HasNoSetup : List ℕ → Bool → Files → (Port → Shown) → (Port → Shown) → Status → Type 0
HasNoSetup name tells held then now (status.File port) = port ≡ ports.Setup
HasNoSetup name tells held then now (status.Long port) =
    (port ≡ ports.Setup) × IsOpened tells name (then ports.Setup) (now ports.Setup) × (tells ≡ true → HoldsLong name held)
HasNoSetup name tells held then now (status.Setup line reason) =
    IsOpened tells name (then ports.Setup) (now ports.Setup) × (tells ≡ true → HoldsRefused name held line reason)
HasNoSetup name tells held then now status.Memory = Unit {0}
HasNoSetup name tells held then now _ = ⊥

-- a call that ends so has touched no port but Setup, and so has written nothing
pub record StopsAtSetup (name : List ℕ) (tells : Bool) (held : Files) (then now : Port → Shown) (answer : Status) : Type 0 where
  pub cause : HasNoSetup name tells held then now answer
  pub only : OnlyPlaced (setup_place name ∷ []) then now

-- a call that stands on a setup ends before it has one, or does what the command does with the setup
abbrev pub RunsOnSetup : List ℕ → (Parts → Type 0) → Bool → Files → (Port → Shown) → (Port → Shown) → Status → Type 0
RunsOnSetup name Works tells held then now answer =
    StopsAtSetup name tells held then now answer ⊎ ((setup : Parts) × (tells ≡ true → HoldsSetup name held setup) × Works setup)

-- ---- what the files ask for

-- the text is refused, or its setup asks for the answer
abbrev pub TextAsks : (Parts → Status → Type 0) → List ℕ → Status → Type 0
TextAsks Judged text answer =
    ((line : ℕ) × (reason : SetupReason) × IsRefused text line reason × (answer ≡ status.Setup line reason))
    ⊎ ((setup : Parts) × IsSetup text setup × Judged setup answer)

-- What the file under the setup's name asks for, before any other input is read.
abbrev pub SetupAsks : (Parts → Status → Type 0) → Option (List ℕ) → Status → Type 0
SetupAsks Judged found answer = Asks ports.Setup 1048576 (TextAsks Judged) found answer
