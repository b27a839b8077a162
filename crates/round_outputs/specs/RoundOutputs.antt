-- What is asked of a batch before it is put at the outputs, and what a put does.
use Rattle.std.specs.Prelude.{◌≡◌, ℕ, Bool, true, List, ◌++◌, All, Result, OnOk, IsErrOf}
use Rattle.sfc_desk.specs.declared.ports.Port.{Port}
use Rattle.sfc_desk.specs.Desks.{Shown, Files, Rose, Moves}
use Rattle.record_text.specs.Lines.{Names}
use Rattle.sfc_routes.specs.Entries.{Entries}
use Rattle.commands.specs.declared.writing.WriteFault.{WriteFault}
use Rattle.commands.specs.declared.writing.WriteFault.TheVariants as fault
use Rattle.commands.specs.Fronts.{IsFront}
use Rattle.commands.specs.Pieces.{SameCounts, Waiting}
use Rattle.worker_run.specs.Batches.{Carried}

-- each record names instances of the roster alone
abbrev pub AreNamed : Entries → List Carried → Type 0
AreNamed roster batch = All (λ c. Names roster c.outcome) batch

-- The bytes were put behind what the port took and what waits. Where that failed, what the port took is a front of this; and only
-- where it failed for the port's sake, its count of faults rose.
pub record Puts (tells : Bool) (then now : Port → Shown) (had has : Files) (old new : Waiting) (result : Result (Unit {0}) WriteFault) (bytes : List ℕ) : Type 0 where
  pub port : new.port ≡ old.port
  pub ok : tells ≡ true → OnOk result ((now old.port).written ++ new.bytes ≡ ((then old.port).written ++ old.bytes) ++ bytes)
  pub front : tells ≡ true → IsFront (now old.port).written (((then old.port).written ++ old.bytes) ++ bytes)
  pub cause : IsErrOf result fault.File → Rose (then old.port) (now old.port)
  pub quiet : OnOk result (SameCounts then now)
  pub spared : IsErrOf result fault.OutOfMemory → SameCounts then now
  pub moves : Moves tells old.port had has then now
