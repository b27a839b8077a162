-- The frames so far, and the state behind their draws.
use Rattle.std.proofs.Common.{◌≡◌, ℕ, map}
use Rattle.std.specs.List.{range_with_len}
use Rattle.generated_inputs.specs.Draws.{drawn, state_after}
use Rattle.generated_inputs.specs.Frames.{frame_for}
use Rattle.generated_inputs.proofs.frames.generated_frames.Given as goal

abbrev pub invariant-loop-number : goal.invariant-loop-number
invariant-loop-number l = record {
  so_far : l.frames ≡ map (λ (number : ℕ). frame_for number (drawn l.seed number)) (range_with_len 0 l.number);
  state : l.draws.state ≡ state_after l.seed l.number;
}
