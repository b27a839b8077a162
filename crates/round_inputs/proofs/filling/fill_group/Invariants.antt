use Rattle.std.proofs.Common.{◌≡◌, ◌≤◌, ◌+◌, ◌-◌, ◌^◌, ℕ, true, List, ◌++◌, length}
use Rattle.sfc_desk.specs.Desks.{Moves}
use Rattle.sfc_desk.specs.declared.ports.Port.TheVariants as ports
use Rattle.control_files.specs.declared.segments.Segment.{Segment}
use Rattle.commands.specs.Pieces.{SameCounts}
use Rattle.round_inputs.specs.Ahead.{ControlAt}
use Rattle.round_inputs.specs.Filling.{are_at_cut}
use Rattle.round_inputs.proofs.filling.fill_group.Given as goal

-- the group is of the cut, and behind it stands what stands next
abbrev pub invariant-group : goal.invariant-group
invariant-group g l = record {
  at : (input : List ℕ) (history : List Segment) → ControlAt g.D.Desk.tells input (g.D.Desk.at l.initial.desk ports.Control).left l.initial.ahead l.initial.feed history → ControlAt g.D.Desk.tells input (g.D.Desk.at l.desk ports.Control).left l.ahead l.feed (history ++ l.group);
  cut : are_at_cut l.ended l.place l.group ≡ true;
  small : length l.group ≤ 256;
  few : l.feed.place + length l.feed.rest ≤ 2 ^ 40;
  peers : l.feed.peers ≡ l.initial.feed.peers;
  counts : SameCounts (g.D.Desk.at l.initial.desk) (g.D.Desk.at l.desk);
  moves : Moves g.D.Desk.tells ports.Control (g.D.Desk.held l.initial.desk) (g.D.Desk.held l.desk) (g.D.Desk.at l.initial.desk) (g.D.Desk.at l.desk);
}

abbrev pub decreases-group : goal.decreases-group
decreases-group g l = 256 - length l.group
