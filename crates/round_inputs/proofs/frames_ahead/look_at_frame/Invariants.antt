use Rattle.std.proofs.Common.{◌≡◌, ◌≤◌, ◌+◌, ◌-◌, ◌^◌, ℕ, List, Some, length}
use Rattle.std.specs.Option.{IfSome}
use Rattle.sfc_desk.specs.Desks.{Moves}
use Rattle.sfc_desk.specs.declared.ports.Port.TheVariants as ports
use Rattle.pcap_io.specs.declared.frames.Captured.{Captured}
use Rattle.commands.specs.Pieces.{SameCounts}
use Rattle.round_inputs.specs.Reading.{FramesRead}
use Rattle.round_inputs.proofs.frames_ahead.look_at_frame.Given as goal

-- what the feed gave, it gave, and what was read joins what it took
abbrev pub invariant-pieces : goal.invariant-pieces
invariant-pieces g l = record {
  read : (input : List ℕ) (given : List Captured) → FramesRead g.D.Desk.tells input (g.D.Desk.at l.initial.desk ports.Capture).left l.initial.feed given → FramesRead g.D.Desk.tells input (g.D.Desk.at l.desk ports.Capture).left l.feed given;
  few : l.feed.place + length l.feed.rest ≤ 2 ^ 40;
  form : IfSome l.initial.feed.form (λ f. l.feed.form ≡ Some f);
  counts : SameCounts (g.D.Desk.at l.initial.desk) (g.D.Desk.at l.desk);
  moves : Moves g.D.Desk.tells ports.Capture (g.D.Desk.held l.initial.desk) (g.D.Desk.held l.desk) (g.D.Desk.at l.initial.desk) (g.D.Desk.at l.desk);
}

-- each piece has a byte
abbrev pub decreases-pieces : goal.decreases-pieces
decreases-pieces g l = 2 ^ 40 - (l.feed.place + length l.feed.rest)
