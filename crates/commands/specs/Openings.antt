-- How a call stands while it binds the ports of its row one behind the other.
use Rattle.std.specs.Prelude.{◌≡◌, Bool, true, List}
use Rattle.sfc_desk.specs.declared.ports.Port.{Port}
use Rattle.sfc_desk.specs.Desks.{Shown, Files}
use Rattle.commands.specs.declared.statuses.Status.TheVariants as status
use Rattle.commands.specs.Commands.{Behaves}
use Rattle.commands.specs.Outputs.{TookAll, none_put}
use Rattle.commands.specs.Pieces.{SameCounts}
use Rattle.commands.specs.Places.{Place, OnlyPlaced, OpensAll}

-- these ports of the row are bound, the outputs among them are empty, and nothing else happened
pub record Opened (done : List Place) (tells : Bool) (then now : Port → Shown) : Type 0 where
  pub all : OpensAll done tells then now
  pub nothing : tells ≡ true → TookAll done then now none_put
  pub only : OnlyPlaced done then now
  pub counts : SameCounts then now

-- a port of the row was not bound, so the call ends, and nothing was written
pub record StopsAt (row : List Place) (tells : Bool) (held : Files) (then now : Port → Shown) (port : Port) : Type 0 where
  pub behaves : Behaves row tells held then now (status.File port)
  pub nothing : tells ≡ true → TookAll row then now none_put
