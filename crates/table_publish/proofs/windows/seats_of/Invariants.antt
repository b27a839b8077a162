-- The seats so far are fresh ones, and the window is as it was.
use Rattle.std.proofs.Common.{◌≡◌, ◌≤◌, drop, length, All}
use Rattle.left_right.specs.Sides.{view}
use Rattle.table_publish.specs.Entries.{published_of}
use Rattle.table_publish.specs.Rules.{Holds}
use Rattle.table_publish.specs.Views.{fresh_seat}
use Rattle.table_publish.proofs.windows.seats_of.Given as goal

abbrev pub invariant-loop : goal.invariant-loop
invariant-loop l = record {
  held : Holds (view l.writer.desk.place) l.writer.desk.shown.value (drop l.writer.behind l.writer.log.items) l.fn.seen;
  count : length l.seats ≤ l.counter;
  fresh : All (λ seat. seat ≡ fresh_seat l.fn.seen.book (published_of l.fn.seen.log)) l.seats;
}
