-- The carries of a sum that is not 0 are those of its remainder.
use Rattle.std.proofs.Common.{ℕ, ◌+◌, ◌-◌, ◌%◌, sum, ap, sym, ◌∙◌}
use Rattle.net_frames.proofs.FoldLemmas.{fold_above}
use Rattle.generated_inputs.proofs.headers.checksum_over.Goals as goal

pub returns : goal.returns
returns c =
    ap (λ (n : ℕ). 65535 - ((n - 1) % 65535 + 1)) c.sum_of.ensures ∙ ap (λ (n : ℕ). 65535 - n) (sym (fold_above (sum c.args.words.now) c.requires.some))
