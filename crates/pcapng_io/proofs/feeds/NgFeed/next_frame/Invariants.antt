use Rattle.std.proofs.Common.{◌≡◌, ◌≤◌, ◌+◌, ℕ, List, length}
use Rattle.pcapng_io.specs.declared.frames.NgFrame.{NgFrame}
use Rattle.pcapng_io.specs.declared.faults.NgRefusal.{NgRefusal}
use Rattle.pcapng_io.specs.Calls.{RefusedAt}
use Rattle.pcapng_io.specs.Streams.{Stands}
use Rattle.pcapng_io.proofs.feeds.NgFeed.next_frame.Given as goal

-- the feed stands for what it stood for, and behind what is refused it goes no further
abbrev pub invariant-each : goal.invariant-each
invariant-each l = record {
  history : (taken : List ℕ) (given : List NgFrame) → Stands l.initial.self taken given → Stands l.self taken given;
  still : (t : NgRefusal) → RefusedAt l.initial.self t → l.self ≡ l.initial.self;
  count : l.self.place + length l.self.rest ≡ l.initial.self.place + length l.initial.self.rest;
  shorter : length l.self.rest ≤ length l.initial.self.rest;
}

-- each block shortens the rest
abbrev pub decreases-each : goal.decreases-each
decreases-each l = length l.self.rest
