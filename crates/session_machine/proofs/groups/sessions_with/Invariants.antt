-- the sessions so far are those of the first peers
use Rattle.std.proofs.Common.{◌≡◌, [], map, take, All}
use Rattle.session_machine.specs.Sessions.{Stands}
use Rattle.session_machine.specs.Peers.{sides_of, AllHold}
use Rattle.session_machine.proofs.groups.sessions_with.Given as goal

abbrev pub invariant-loop-peer : goal.invariant-loop-peer
invariant-loop-peer l = record {
  sides : map (λ s. s.side) l.made.items ≡ sides_of l.local (take l.peer-index l.peers);
  each : All (λ s. Stands s [] []) l.made.items;
  count : AllHold 0 l.made.items;
}
