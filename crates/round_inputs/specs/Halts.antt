-- Why a run that reads both inputs stops, and what a call leaves of the desk that only reads them.
use Rattle.std.specs.Prelude.{◌≡◌, ◌≢◌, ◌⊎◌, Bool, true, Result, Ok, Err}
use Rattle.sfc_desk.specs.declared.ports.Port.{Port}
use Rattle.sfc_desk.specs.declared.ports.Port.TheVariants as ports
use Rattle.sfc_desk.specs.Desks.{Shown, Files, Rose}
use Rattle.commands.specs.Pieces.{NoneBound, SameCounts}
use Rattle.round_inputs.specs.declared.halts.Halt.{Halt}
use Rattle.round_inputs.specs.declared.halts.Halt.TheVariants as halts

-- the port is one of the two inputs
abbrev pub IsRead : Port → Type 0
IsRead port = (port ≡ ports.Capture) ⊎ (port ≡ ports.Control)

abbrev pub IsPort : Port → Port → Type 0
IsPort own port = port ≡ own

-- no count rose but that of the port of a call that failed, which is one of these; and only one of these is too long
abbrev pub Counts : {T : Type 0} → (Port → Type 0) → (Port → Shown) → (Port → Shown) → Result T Halt → Type 0
Counts IsOne then now (Ok x) = SameCounts then now
Counts IsOne then now (Err (halts.File port)) = IsOne port × Rose (then port) (now port) × ((other : Port) → other ≢ port → (now other).faults ≡ (then other).faults)
Counts IsOne then now (Err (halts.Long port)) = IsOne port × SameCounts then now
Counts IsOne then now (Err halts.OutOfMemory) = SameCounts then now

-- both inputs were read from, and nothing else was done
pub record ReadsBoth (tells : Bool) (held_old held_new : Files) (then now : Port → Shown) : Type 0 where
  pub none_bound : NoneBound tells then now
  pub files : held_new ≡ held_old
  pub capture_bound : (now ports.Capture).bound ≡ true
  pub control_bound : (now ports.Control).bound ≡ true
  pub others : (port : Port) → port ≢ ports.Capture → port ≢ ports.Control → now port ≡ then port
