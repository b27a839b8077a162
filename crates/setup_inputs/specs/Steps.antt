-- What reading the bound Setup answers on the way. No public clause stands on it.
use Rattle.std.specs.Prelude.{◌≡◌, ◌≢◌, ℕ, ◌<◌, ◌≤◌, Bool, true, List, length, Result, Ok, Err}
use Rattle.sfc_desk.specs.declared.ports.Port.{Port}
use Rattle.sfc_desk.specs.declared.ports.Port.TheVariants as ports
use Rattle.sfc_desk.specs.Desks.{Shown, Rose}
use Rattle.sfc_config.specs.declared.faults.SetupReason.{SetupReason}
use Rattle.sfc_config.specs.Parts.{Parts}
use Rattle.sfc_config.specs.Texts.{IsSetup, IsRefused}
use Rattle.commands.specs.declared.statuses.Status.{Status}
use Rattle.commands.specs.declared.statuses.Status.TheVariants as status

-- what parsing a text answers
abbrev pub TextRead : List ℕ → Result Parts Status → Type 0
TextRead text (Ok setup) = IsSetup text setup
TextRead text (Err (status.Setup line reason)) = IsRefused text line reason
TextRead text (Err status.Memory) = Unit {0}
TextRead text (Err _) = ⊥

-- the bytes that the bound Setup has still to give
abbrev pub text_of : (Port → Shown) → List ℕ
text_of then = (then ports.Setup).left

-- they are within the limit and spell the setup
pub record Spells (text : List ℕ) (setup : Parts) : Type 0 where
  pub within : length text ≤ 1048576
  pub spelled : IsSetup text setup

-- they are within the limit and are refused
pub record Refuses (text : List ℕ) (line : ℕ) (reason : SetupReason) : Type 0 where
  pub within : length text ≤ 1048576
  pub refused : IsRefused text line reason

-- why there is no setup
abbrev pub NoSetup : Bool → (Port → Shown) → (Port → Shown) → Status → Type 0
NoSetup tells then now (status.File port) = (port ≡ ports.Setup) × Rose (then port) (now port)
NoSetup tells then now (status.Long port) = (port ≡ ports.Setup) × (tells ≡ true → 1048576 < length (text_of then))
NoSetup tells then now (status.Setup line reason) = tells ≡ true → Refuses (text_of then) line reason
NoSetup tells then now status.Memory = Unit {0}
NoSetup tells then now _ = ⊥

-- the bound Setup gave no text or no setup
pub record ReadStops (tells : Bool) (then now : Port → Shown) (answer : Status) : Type 0 where
  pub cause : NoSetup tells then now answer
  pub counts : (port : Port) → answer ≢ status.File port → (now port).faults ≡ (then port).faults
