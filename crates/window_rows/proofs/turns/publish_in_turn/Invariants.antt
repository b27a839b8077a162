-- The publisher is of its window.
use Rattle.std.proofs.Common.{◌≡◌}
use Rattle.window_rows.proofs.turns.publish_in_turn.Given as goal

abbrev pub invariant-loop-turn : goal.invariant-loop-turn
invariant-loop-turn g l = l.publisher.window ≡ l.fn.publisher.window
