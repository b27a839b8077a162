-- the numbers so far, and the pieces that are left
use Rattle.std.proofs.Common.{◌≡◌, ◌<◌, ◌≤◌, ◌^◌, ◌++◌, length}
use Rattle.std.specs.Prelude.{map}
use Rattle.std.specs.List.{All}
use Rattle.std.specs.Fmt.{decimal}
use Rattle.record_text.proofs.list_text.read_numbers.Given as goal

abbrev pub invariant-loop-piece : goal.invariant-loop-piece
invariant-loop-piece l = record {
  cut : map decimal l.numbers.items ++ l.pieces ≡ l.initial.pieces;
  few : length l.numbers.items ≤ 63;
  fit : All (λ v. v < 2 ^ 64) l.numbers.items;
}

abbrev pub decreases-loop-piece : goal.decreases-loop-piece
decreases-loop-piece l = length l.pieces
