use Rattle.std.proofs.Common.{◌≡◌}
use Rattle.net_frames.specs.Checksums.{fold}
use Rattle.net_frames.proofs.checksums.fold_carries.Given as goal

-- the fold stays, and the sum falls
abbrev pub invariant-loop-sum : goal.invariant-loop-sum
invariant-loop-sum l = fold l.sum ≡ fold l.fn.sum

abbrev pub decreases-loop-sum : goal.decreases-loop-sum
decreases-loop-sum l = l.sum
