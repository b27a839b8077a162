use Rattle.std.proofs.Common.{◌≡◌, ◌<◌, ◌+◌, ◌++◌, ℕ, List, Some, true, length, vec_len}
use Rattle.sfc_desk.specs.Desks.{Moves}
use Rattle.sfc_desk.specs.declared.ports.Port.TheVariants as ports
use Rattle.walk_command.specs.WalkSteps.{State}
use Rattle.walk_command.proofs.walk_streams.put_packets.Given as goal

-- where the walk stands goes on from where it stood, and no byte is lost
abbrev pub invariant-packets : goal.invariant-packets
invariant-packets g l = record {
  state : g.D.Desk.tells ≡ true → (input left : List ℕ) → State l.path input left ((g.D.Desk.at l.initial.desk ports.Egress).written ++ l.initial.buffer.items) l.initial.feed → State l.path input left ((g.D.Desk.at l.desk ports.Egress).written ++ l.buffer.items) l.feed;
  form : l.feed.form ≡ Some l.fn.form;
  count : l.feed.place + length l.feed.rest ≡ l.initial.feed.place + length l.initial.feed.rest;
  small : vec_len l.buffer < 65536;
  quiet : (g.D.Desk.at l.desk ports.Egress).faults ≡ (g.D.Desk.at l.initial.desk ports.Egress).faults;
  moves : Moves g.D.Desk.tells ports.Egress (g.D.Desk.held l.initial.desk) (g.D.Desk.held l.desk) (g.D.Desk.at l.initial.desk) (g.D.Desk.at l.desk);
}

-- each packet shortens the rest
abbrev pub decreases-packets : goal.decreases-packets
decreases-packets g l = length l.feed.rest
