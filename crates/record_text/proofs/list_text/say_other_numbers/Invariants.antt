-- what was written of the numbers
use Rattle.std.proofs.Common.{◌∷◌}
use Rattle.std.specs.Fmt.{decimal}
use Rattle.record_text.proofs.AppendLemmas.{SoFar}
use Rattle.record_text.proofs.list_text.say_other_numbers.Given as goal

abbrev pub invariant-loop-number : goal.invariant-loop-number
invariant-loop-number l = SoFar (λ n. 44 ∷ decimal n) l.numbers l.number-index l.initial.out l.out
