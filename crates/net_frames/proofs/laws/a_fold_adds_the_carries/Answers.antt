use Rattle.std.proofs.Common.{sym}
use Rattle.net_frames.proofs.FoldLemmas.{fold_small, fold_carry}
use Rattle.net_frames.proofs.laws.a_fold_adds_the_carries.Goals as goal

pub returns : goal.returns
returns c = record { small = λ n h. sym (fold_small n h); carried = λ n. fold_carry n }
