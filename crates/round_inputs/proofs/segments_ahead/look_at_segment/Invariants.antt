use Rattle.std.proofs.Common.{◌≡◌, ◌≤◌, ◌+◌, ◌-◌, ◌^◌, ℕ, List, length}
use Rattle.sfc_desk.specs.Desks.{Moves}
use Rattle.sfc_desk.specs.declared.ports.Port.TheVariants as ports
use Rattle.control_files.specs.declared.segments.Segment.{Segment}
use Rattle.commands.specs.Pieces.{SameCounts}
use Rattle.round_inputs.specs.Reading.{SegmentsRead}
use Rattle.round_inputs.proofs.segments_ahead.look_at_segment.Given as goal

-- what the feed gave, it gave, and what was read joins what it took
abbrev pub invariant-pieces : goal.invariant-pieces
invariant-pieces g l = record {
  read : (input : List ℕ) (given : List Segment) → SegmentsRead g.D.Desk.tells input (g.D.Desk.at l.initial.desk ports.Control).left l.initial.feed given → SegmentsRead g.D.Desk.tells input (g.D.Desk.at l.desk ports.Control).left l.feed given;
  few : l.feed.place + length l.feed.rest ≤ 2 ^ 40;
  peers : l.feed.peers ≡ l.initial.feed.peers;
  counts : SameCounts (g.D.Desk.at l.initial.desk) (g.D.Desk.at l.desk);
  moves : Moves g.D.Desk.tells ports.Control (g.D.Desk.held l.initial.desk) (g.D.Desk.held l.desk) (g.D.Desk.at l.initial.desk) (g.D.Desk.at l.desk);
}

-- each piece has a byte
abbrev pub decreases-pieces : goal.decreases-pieces
decreases-pieces g l = 2 ^ 40 - (l.feed.place + length l.feed.rest)
