use Rattle.std.proofs.Common.{◌≡◌, ◌≢◌, ◌<◌, ◌≤◌, ◌+◌, ◌-◌, ◌^◌, ◌++◌, ℕ, List, true, length, vec_len}
use Rattle.sfc_desk.specs.declared.ports.Port.{Port}
use Rattle.sfc_desk.specs.declared.ports.Port.TheVariants as ports
use Rattle.pcap_io.specs.Calls.{HeldIn}
use Rattle.commands.specs.Pieces.{NoneBound}
use Rattle.walk_command.specs.WalkSteps.{State}
use Rattle.walk_command.proofs.walk_streams.walk_pieces.Given as goal

-- where the walk stands goes on from where it stood, and between two pieces nothing is whole
abbrev pub invariant-pieces : goal.invariant-pieces
invariant-pieces g l = record {
  state : g.D.Desk.tells ≡ true → (input : List ℕ) → State l.path input (g.D.Desk.at l.initial.desk ports.Capture).left ((g.D.Desk.at l.initial.desk ports.Egress).written ++ l.initial.buffer.items) l.initial.feed → State l.path input (g.D.Desk.at l.desk ports.Capture).left ((g.D.Desk.at l.desk ports.Egress).written ++ l.buffer.items) l.feed × HeldIn l.feed.form l.feed.rest;
  count : l.feed.place + length l.feed.rest ≤ 2 ^ 40;
  small : vec_len l.buffer < 65536;
  capture : (g.D.Desk.at l.desk ports.Capture).bound ≡ true;
  egress : (g.D.Desk.at l.desk ports.Egress).bound ≡ true;
  capture_quiet : (g.D.Desk.at l.desk ports.Capture).faults ≡ (g.D.Desk.at l.initial.desk ports.Capture).faults;
  egress_quiet : (g.D.Desk.at l.desk ports.Egress).faults ≡ (g.D.Desk.at l.initial.desk ports.Egress).faults;
  none_bound : NoneBound g.D.Desk.tells (g.D.Desk.at l.initial.desk) (g.D.Desk.at l.desk);
  others : (port : Port) → port ≢ ports.Capture → port ≢ ports.Egress → g.D.Desk.at l.desk port ≡ g.D.Desk.at l.initial.desk port;
}

-- each piece has a byte
abbrev pub decreases-pieces : goal.decreases-pieces
decreases-pieces g l = 2 ^ 40 - (l.feed.place + length l.feed.rest)
