-- At the end the RDs so far are all.
use Rattle.std.proofs.Common.{ℕ, List, ◌++◌, ap, ◌∙◌}
use Rattle.std.specs.List.{flat_map}
use Rattle.std.proofs.lemmas.List.{take_all}
use Rattle.wire_base.specs.Numbers.{two}
use Rattle.sfp_attribute.proofs.encoding.sft_value.Goals as goal

pub returns : goal.returns
returns c =
    c.loop-rd.invariant
    ∙ ap (λ (rds : List (List ℕ)). two c.args.kind ++ flat_map (λ (rd : List ℕ). rd) rds) (take_all c.loop-rd.rd-index c.args.rds.now c.loop-rd-test.false)
