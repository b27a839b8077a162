-- The seat is of its window.
use Rattle.std.proofs.Common.{◌≡◌}
use Rattle.window_rows.proofs.turns.look_in_turn.Given as goal

abbrev pub invariant-loop-turn : goal.invariant-loop-turn
invariant-loop-turn l = l.seat.window ≡ l.fn.seat.window
