-- The changes so far.
use Rattle.std.proofs.Common.{◌≡◌, ◌++◌, ℕ, map}
use Rattle.std.specs.List.{range_with_len}
use Rattle.generated_inputs.specs.Segments.{change_at}
use Rattle.generated_inputs.proofs.segments.push_changes.Given as goal

abbrev pub invariant-loop-index : goal.invariant-loop-index
invariant-loop-index l = l.segments ≡ l.initial.segments ++ map (λ (number : ℕ). change_at l.own number) (range_with_len 1 l.index)
