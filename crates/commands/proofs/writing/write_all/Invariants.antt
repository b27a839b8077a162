use Rattle.std.proofs.Common.{◌≡◌, ◌++◌, [], true, length}
use Rattle.commands.specs.Fronts.{IsFront}
use Rattle.commands.specs.Pieces.{WritesOn}
use Rattle.commands.proofs.writing.write_all.Given as goal

-- what was taken and what is to come are what was to be written, and nothing taken before is gone
abbrev pub invariant-pieces : goal.invariant-pieces
invariant-pieces g l = WritesOn g.D.Desk.tells l.port (g.D.Desk.at l.initial.desk) (g.D.Desk.at l.desk) (g.D.Desk.held l.initial.desk) (g.D.Desk.held l.desk) ((g.D.Desk.at l.initial.desk l.port).written ++ l.fn.bytes) [] l.rest × (g.D.Desk.tells ≡ true → IsFront (g.D.Desk.at l.initial.desk l.port).written (g.D.Desk.at l.desk l.port).written)

-- each write takes a byte
abbrev pub decreases-pieces : goal.decreases-pieces
decreases-pieces g l = length l.rest
