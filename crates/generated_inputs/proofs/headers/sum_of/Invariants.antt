-- The sum of the words so far.
use Rattle.std.proofs.Common.{◌≡◌, ◌≤◌, ◌*◌, take}
use Rattle.std.specs.Prelude.{sum}
use Rattle.generated_inputs.proofs.headers.sum_of.Given as goal

abbrev pub invariant-loop-word : goal.invariant-loop-word
invariant-loop-word l = record {
  sum_is : l.total ≡ sum (take l.word-index l.words);
  small : l.total ≤ 65535 * l.word-index;
}
