use Rattle.std.proofs.Common.{◌++◌, ◌<◌, length, vec_len}
use Rattle.commands.specs.Pieces.{WritesOn}
use Rattle.commands.proofs.writing.fill.Given as goal

-- what was taken, what the buffer holds and what is to come are what was to be written
abbrev pub invariant-pieces : goal.invariant-pieces
invariant-pieces g l = (vec_len l.buffer < 65536) × WritesOn g.D.Desk.tells l.port (g.D.Desk.at l.initial.desk) (g.D.Desk.at l.desk) (g.D.Desk.held l.initial.desk) (g.D.Desk.held l.desk) (((g.D.Desk.at l.initial.desk l.port).written ++ l.initial.buffer.items) ++ l.fn.bytes) l.buffer.items l.rest

-- each round puts a byte
abbrev pub decreases-pieces : goal.decreases-pieces
decreases-pieces g l = length l.rest
