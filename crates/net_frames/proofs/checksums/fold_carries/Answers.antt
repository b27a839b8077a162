use Rattle.std.proofs.Common.{◌≡◌, ◌%◌, bit_and, arith, refl, ◌∙◌}
use Rattle.std.proofs.lemmas.Grind.{and_numeral}
use Rattle.net_frames.proofs.FoldLemmas.{fold_small, fold_carry}
use Rattle.net_frames.proofs.checksums.fold_carries.Goals as goal

-- the carries added in leave the fold as it was
pub loop-sum-preserved : goal.loop-sum-preserved
loop-sum-preserved c =
    let low : bit_and c.loop-sum.sum 65535 ≡ c.loop-sum.sum % 65536 = and_numeral c.loop-sum.sum 65534 refl in
    rw (low, fold_carry) c.loop-sum.invariant

-- a sum without carries is its own fold
pub returns : goal.returns
returns c = fold_small c.loop-sum.sum (omega arith) ∙ c.loop-sum.invariant
