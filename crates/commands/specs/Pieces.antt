-- What holds between the pieces of an input or an output.
use Rattle.std.specs.Prelude.{◌≡◌, ℕ, ◌≤◌, Bool, true, List, ◌++◌, length}
use Rattle.sfc_desk.specs.declared.ports.Port.{Port}
use Rattle.sfc_desk.specs.Desks.{Shown, Files, Moves}

-- no count of faults changed
abbrev pub SameCounts : (Port → Shown) → (Port → Shown) → Type 0
SameCounts then now = (port : Port) → (now port).faults ≡ (then port).faults

-- no port was bound, nor its name changed
pub record NoneBound (tells : Bool) (then now : Port → Shown) : Type 0 where
  pub binds : (port : Port) → (now port).binds ≡ (then port).binds
  pub names : tells ≡ true → (port : Port) → (now port).name ≡ (then port).name

-- an output and the bytes that wait to be written there
pub record Waiting : Type 0 where
  pub port : Port
  pub bytes : List ℕ

-- reading: what was read and what is left are what was there
pub record ReadsOn (tells : Bool) (limit : ℕ) (port : Port) (then now : Port → Shown) (had has : Files) (read : List ℕ) : Type 0 where
  pub so_far : tells ≡ true → (then port).left ≡ read ++ (now port).left
  pub small : length read ≤ limit
  pub counts : SameCounts then now
  pub moves : Moves tells port had has then now

-- writing: what was taken, what waits and what is to come are what was to be written
pub record WritesOn (tells : Bool) (port : Port) (then now : Port → Shown) (had has : Files) (whole waiting rest : List ℕ) : Type 0 where
  pub so_far : tells ≡ true → ((now port).written ++ waiting) ++ rest ≡ whole
  pub counts : SameCounts then now
  pub moves : Moves tells port had has then now
