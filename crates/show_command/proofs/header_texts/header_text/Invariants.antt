-- The front of what was read is kept, and what was read is counted.
use Rattle.std.proofs.Common.{◌≡◌, ◌+◌, ◌-◌, ◌^◌, ◌≤◌, min, List, ℕ, true, ◌++◌, take, length, vec_len}
use Rattle.sfc_desk.specs.Desks.{Moves}
use Rattle.sfc_desk.specs.declared.ports.Port.TheVariants.{Source}
use Rattle.commands.specs.Pieces.{SameCounts}
use Rattle.show_command.proofs.SourceLemmas.{KeptOn}
use Rattle.show_command.proofs.header_texts.header_text.Given as goal

abbrev pub invariant-pieces : goal.invariant-pieces
invariant-pieces g l = (vec_len l.piece ≡ 65536) × KeptOn g.D.Desk.tells (g.D.Desk.at l.initial.desk) (g.D.Desk.at l.desk) (g.D.Desk.held l.initial.desk) (g.D.Desk.held l.desk) l.front l.total

-- each piece has a byte
abbrev pub decreases-pieces : goal.decreases-pieces
decreases-pieces g l = 2 ^ 40 - l.total
