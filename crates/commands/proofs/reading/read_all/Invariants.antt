use Rattle.std.proofs.Common.{◌≡◌, ◌+◌, ◌-◌, vec_len}
use Rattle.commands.specs.Pieces.{ReadsOn}
use Rattle.commands.proofs.reading.read_all.Given as goal

-- what was read and what is left are what was there; the piece stays
abbrev pub invariant-pieces : goal.invariant-pieces
invariant-pieces g l = (vec_len l.piece ≡ 65536) × ReadsOn g.D.Desk.tells l.limit l.port (g.D.Desk.at l.initial.desk) (g.D.Desk.at l.desk) (g.D.Desk.held l.initial.desk) (g.D.Desk.held l.desk) l.all.items

-- each piece has a byte
abbrev pub decreases-pieces : goal.decreases-pieces
decreases-pieces g l = l.limit + 1 - vec_len l.all
