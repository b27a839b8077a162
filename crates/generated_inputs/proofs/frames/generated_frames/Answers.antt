-- One more draw, and the frame for it.
use Rattle.std.proofs.Common.{◌≡◌, ◌+◌, ◌/◌, ◌^◌, ◌++◌, ℕ, suc, List, [], ◌∷◌, map, sym, ap, ◌∙◌, arith}
use Rattle.std.specs.List.{range_with_len}
use Rattle.std.proofs.lemmas.List.FromFn.{map-range_with_len_more}
use Rattle.pcap_io.specs.declared.frames.Captured.{Captured}
use Rattle.generated_inputs.specs.Draws.{drawn, next_state, state_after}
use Rattle.generated_inputs.specs.Frames.{frame_for}
use Rattle.generated_inputs.proofs.frames.generated_frames.Goals as goal

pub loop-number-preserved : goal.loop-number-preserved
loop-number-preserved c =
    let n = c.loop-number.number in
    let all = λ (number : ℕ). frame_for number (drawn c.args.seed number) in
    let state : c.draw.new.self.state ≡ state_after c.args.seed (suc n) = c.draw.ensures.next ∙ ap next_state c.loop-number.invariant.state in
    let one : suc n ≡ n + 1 = omega arith in
    let more : c.draw.new.self.state ≡ state_after c.args.seed (n + 1) = state ∙ ap (state_after c.args.seed) one in
    let frame : c.in_ok-frame.frame ≡ all n = c.in_ok-frame.ensures ∙ ap (frame_for n) (c.draw.ensures.drawn ∙ ap (λ (s : ℕ). s / 2 ^ 33) state) in
    record {
      so_far = c.in_ok-push.ensures.ok
          ∙ (ap (λ (l : List Captured). l ++ c.in_ok-frame.frame ∷ []) c.loop-number.invariant.so_far
          ∙ (ap (λ (f : Captured). map all (range_with_len 0 n) ++ f ∷ []) frame ∙ sym (map-range_with_len_more all 0 n n (omega arith))));
      state = cc;
    }
