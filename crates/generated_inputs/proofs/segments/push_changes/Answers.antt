-- One more change.
use Rattle.std.proofs.Common.{◌+◌, ◌++◌, ℕ, List, [], ◌∷◌, map, append_assoc, sym, ap, ◌∙◌, arith}
use Rattle.std.specs.List.{range_with_len}
use Rattle.std.proofs.lemmas.List.FromFn.{map-range_with_len_more}
use Rattle.control_files.specs.declared.segments.Segment.{Segment}
use Rattle.generated_inputs.specs.Segments.{change_at}
use Rattle.generated_inputs.proofs.segments.push_changes.Goals as goal

pub loop-index-preserved : goal.loop-index-preserved
loop-index-preserved c =
    let n = c.loop-index.index in
    let all = λ (number : ℕ). change_at c.args.own number in
    let before : List Segment = c.args.segments.now in
    c.in_ok-push.ensures.ok
    ∙ (ap (λ (l : List Segment). l ++ c.in_ok-change.change ∷ []) c.loop-index.invariant
    ∙ (append_assoc before (map all (range_with_len 1 n)) (c.in_ok-change.change ∷ [])
    ∙ (ap (λ (s : Segment). before ++ (map all (range_with_len 1 n) ++ s ∷ [])) c.in_ok-change.ensures
    ∙ ap (λ (l : List Segment). before ++ l) (sym (map-range_with_len_more all 1 n (n + 1) (omega arith))))))
