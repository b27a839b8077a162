-- What a feed keeps after its room was written through a borrow.
use Rattle.std.specs.Prelude.{ℕ, List}
use Rattle.std.specs.Borrow.{Lends, Fml, MutBor, Array, u8}
use Rattle.wire_base.specs.Lists.{refilled}
use Rattle.pcapng_io.specs.Kept.{Kept}
use Rattle.pcapng_io.specs.contracts.feeds.NgFeed.{the_row}

-- the feed with this room
abbrev pub with_room : Kept → List ℕ → Kept
with_room feed written = record { failed = feed.failed; section = feed.section; lent = feed.lent; rest = feed.rest; room = refilled feed.room written; place = feed.place }

-- once the borrow r ends, the room is what r shows last
abbrev pub LendsRoom : MutBor Kept → MutBor (List ℕ) → Fml
LendsRoom s r = Lends the_row (Array u8 0) s r (with_room s.now)
