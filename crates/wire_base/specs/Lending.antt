-- What a value holds after some of its bytes were written through a borrow.
use Rattle.std.specs.Prelude.{ℕ, List}
use Rattle.std.specs.Borrow.{Lends, Fml, MutBor, Array, u8}
use Rattle.wire_base.specs.Lists.{refilled}
use Rattle.wire_base.specs.Rooms.{Roomed}
use Rattle.wire_base.specs.Runs.{Runs}
use Rattle.wire_base.specs.contracts.byte_lists.Bytes.{the_row as bytes_row}
use Rattle.wire_base.specs.contracts.front_buffers.FrontBuffer.{the_row as runs_row}
use Rattle.wire_base.specs.contracts.room_buffers.RoomBuffer.{the_row as room_row}

-- once the borrow r ends, the list holds the bytes that r shows last
abbrev pub LendsBytes : MutBor (List ℕ) → MutBor (List ℕ) → Fml
LendsBytes s r = Lends bytes_row (Array u8 0) s r (refilled s.now)

-- the runs with this room
abbrev pub with_room : Runs → List ℕ → Runs
with_room runs written = record { passed = runs.passed; rest = runs.rest; room = refilled runs.room written }

-- once the borrow r ends, the room is what r shows last
abbrev pub LendsRoom : MutBor Runs → MutBor (List ℕ) → Fml
LendsRoom s r = Lends runs_row (Array u8 0) s r (with_room s.now)

-- the bytes, replaced by these, in the same room
abbrev pub roomed_again : Roomed → List ℕ → Roomed
roomed_again old written = record { room = old.room; bytes = refilled old.bytes written }

-- once the borrow r ends, the buffer holds the bytes that r shows last
abbrev pub LendsRoomed : MutBor Roomed → MutBor (List ℕ) → Fml
LendsRoomed s r = Lends room_row (Array u8 0) s r (roomed_again s.now)
