-- The seat is of its window.
use Rattle.std.proofs.Common.{◌≡◌}
use Rattle.window_rows.proofs.races.watch.Given as goal

abbrev pub invariant-loop : goal.invariant-loop
invariant-loop l = l.seat.window ≡ l.fn.seat.window
