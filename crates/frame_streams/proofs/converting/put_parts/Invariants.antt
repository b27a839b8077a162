use Rattle.std.proofs.Common.{◌≡◌, ℕ, List}
use Rattle.sfc_desk.specs.Desks.{Moves}
use Rattle.commands.specs.Pieces.{SameCounts}
use Rattle.frame_streams.specs.Turning.{StandsAt}
use Rattle.frame_streams.proofs.converting.put_parts.Given as goal

-- where the conversion stands goes on from where it stood
abbrev pub invariant-parts : goal.invariant-parts
invariant-parts g l = record {
  stands : (words : _) (whole left : List ℕ) → StandsAt g.C.Converter.writes words (g.C.Converter.said l.initial.converter) (g.C.Converter.turned l.initial.converter) (g.C.Converter.count l.initial.converter) g.D.Desk.tells whole left (g.D.Desk.at l.initial.desk l.fn.output).written l.initial.buffer.items → StandsAt g.C.Converter.writes words (g.C.Converter.said l.converter) (g.C.Converter.turned l.converter) (g.C.Converter.count l.converter) g.D.Desk.tells whole left (g.D.Desk.at l.desk l.fn.output).written l.buffer.items;
  said : g.C.Converter.said l.converter ≡ g.C.Converter.said l.initial.converter;
  count : g.C.Converter.count l.converter ≡ g.C.Converter.count l.initial.converter;
  quiet : SameCounts (g.D.Desk.at l.initial.desk) (g.D.Desk.at l.desk);
  moves : Moves g.D.Desk.tells l.fn.output (g.D.Desk.held l.initial.desk) (g.D.Desk.held l.desk) (g.D.Desk.at l.initial.desk) (g.D.Desk.at l.desk);
}

-- each part uses bytes up
abbrev pub decreases-parts : goal.decreases-parts
decreases-parts g l = g.C.Converter.unused l.converter
