use Rattle.std.proofs.Common.{◌≡◌, ◌-◌, ◌≤◌, All, length}
use Rattle.wire_base.specs.Rooms.{Roomed}
use Rattle.forwarder.proofs.traces.packet_rooms.Given as goal

-- so many rooms so far, each for a packet
abbrev pub invariant-rooms : goal.invariant-rooms
invariant-rooms l = record {
  few : length l.rooms.items ≤ 62;
  each : All (λ (b : Roomed). b.room ≡ 262410) l.rooms.items;
}

abbrev pub decreases-rooms : goal.decreases-rooms
decreases-rooms l = 62 - length l.rooms.items
