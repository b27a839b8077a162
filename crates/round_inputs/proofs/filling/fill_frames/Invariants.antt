use Rattle.std.proofs.Common.{◌≡◌, ◌≤◌, ◌+◌, ◌-◌, ◌^◌, ℕ, List, ◌++◌, Some, length}
use Rattle.std.specs.Option.{IfSome}
use Rattle.sfc_desk.specs.Desks.{Moves}
use Rattle.sfc_desk.specs.declared.ports.Port.TheVariants as ports
use Rattle.pcap_io.specs.declared.frames.Captured.{Captured}
use Rattle.commands.specs.Pieces.{SameCounts}
use Rattle.round_inputs.specs.Ahead.{CaptureAt}
use Rattle.round_inputs.specs.Filling.{LendsNext}
use Rattle.round_inputs.proofs.filling.fill_frames.Given as goal

-- behind the frames stands what stands next
abbrev pub invariant-frames : goal.invariant-frames
invariant-frames g l = record {
  at : (input : List ℕ) (passed : List Captured) → CaptureAt g.D.Desk.tells input (g.D.Desk.at l.initial.desk ports.Capture).left l.initial.ahead l.initial.feed passed → CaptureAt g.D.Desk.tells input (g.D.Desk.at l.desk ports.Capture).left l.ahead l.feed (passed ++ g.B.FrameBuffer.frames l.buffer);
  small : length (g.B.FrameBuffer.frames l.buffer) ≤ l.most;
  lends : LendsNext l.ahead l.feed;
  few : l.feed.place + length l.feed.rest ≤ 2 ^ 40;
  form : IfSome l.initial.feed.form (λ f. l.feed.form ≡ Some f);
  counts : SameCounts (g.D.Desk.at l.initial.desk) (g.D.Desk.at l.desk);
  moves : Moves g.D.Desk.tells ports.Capture (g.D.Desk.held l.initial.desk) (g.D.Desk.held l.desk) (g.D.Desk.at l.initial.desk) (g.D.Desk.at l.desk);
}

abbrev pub decreases-frames : goal.decreases-frames
decreases-frames g l = l.most - length (g.B.FrameBuffer.frames l.buffer)
