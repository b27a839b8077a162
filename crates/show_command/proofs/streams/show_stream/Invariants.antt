-- The lines of what was read stand behind what Report had.
use Rattle.std.proofs.Common.{◌≡◌, ◌-◌, ◌^◌, vec_len}
use Rattle.show_command.proofs.SourceLemmas.{StreamsOn}
use Rattle.show_command.proofs.streams.show_stream.Given as goal

abbrev pub invariant-pieces : goal.invariant-pieces
invariant-pieces g l = (vec_len l.piece ≡ 65536) × StreamsOn g.D.Desk.tells (g.D.Desk.at l.initial.desk) (g.D.Desk.at l.desk) l.lines l.total

-- each piece has a byte
abbrev pub decreases-pieces : goal.decreases-pieces
decreases-pieces g l = 2 ^ 40 - l.total
