use Rattle.std.proofs.Common.{◌≡◌, ◌≢◌, ◌<◌, ◌≤◌, ◌-◌, ◌^◌, ℕ, List, true, length}
use Rattle.sfc_desk.specs.declared.ports.Port.{Port}
use Rattle.commands.specs.Pieces.{NoneBound, SameCounts}
use Rattle.frame_streams.specs.Turning.{StandsAt}
use Rattle.frame_streams.proofs.converting.convert_pieces.Given as goal

-- where the conversion stands goes on from where it stood, and between two pieces nothing is at hand
abbrev pub invariant-pieces : goal.invariant-pieces
invariant-pieces g l = record {
  stands : (words : _) (whole : List ℕ) → StandsAt g.C.Converter.writes words (g.C.Converter.said l.initial.converter) (g.C.Converter.turned l.initial.converter) (g.C.Converter.count l.initial.converter) g.D.Desk.tells whole (g.D.Desk.at l.initial.desk l.fn.input).left (g.D.Desk.at l.initial.desk l.fn.output).written l.initial.buffer.items → StandsAt g.C.Converter.writes words (g.C.Converter.said l.converter) (g.C.Converter.turned l.converter) (g.C.Converter.count l.converter) g.D.Desk.tells whole (g.D.Desk.at l.desk l.fn.input).left (g.D.Desk.at l.desk l.fn.output).written l.buffer.items;
  at_rest : g.C.Converter.is_quiet l.converter;
  said : g.C.Converter.said l.converter ≡ g.C.Converter.said l.initial.converter;
  few : g.C.Converter.count l.converter ≤ 2 ^ 40;
  some : 0 < length l.piece;
  input_bound : (g.D.Desk.at l.desk l.fn.input).bound ≡ true;
  output_bound : (g.D.Desk.at l.desk l.fn.output).bound ≡ true;
  quiet : SameCounts (g.D.Desk.at l.initial.desk) (g.D.Desk.at l.desk);
  none_bound : NoneBound g.D.Desk.tells (g.D.Desk.at l.initial.desk) (g.D.Desk.at l.desk);
  others : (port : Port) → port ≢ l.fn.input → port ≢ l.fn.output → g.D.Desk.at l.desk port ≡ g.D.Desk.at l.initial.desk port;
}

-- each piece has a byte
abbrev pub decreases-pieces : goal.decreases-pieces
decreases-pieces g l = 2 ^ 40 - g.C.Converter.count l.converter
