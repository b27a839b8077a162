-- The front of bytes 0 is bytes 0.
use Rattle.std.proofs.Common.{◌≡◌, ◌++◌, ℕ, List, OnOk, subst}
use Rattle.std.proofs.lemmas.List.{take-replicate}
use Rattle.generated_inputs.proofs.frames.push_zeros.Goals as goal

pub returns : goal.returns
returns c =
    subst (λ (l : List ℕ). OnOk c.push_all.result (c.push_all.new.self ≡ c.args.bytes.now ++ l)) (take-replicate c.args.count 1462 0 c.requires) c.push_all.ensures.ok
