-- A front of the one at the place, behind those before it.
use Rattle.std.proofs.Common.{◌∷◌}
use Rattle.std.specs.Fmt.{decimal}
use Rattle.std.proofs.lemmas.List.{get_or_default}
use Rattle.text_words.proofs.PrintingLemmas.{fails}
use Rattle.record_text.proofs.AppendLemmas.{front_so_far}
use Rattle.record_text.proofs.list_text.say_other_numbers.Goals as goal

pub returns-in_err-say_number-clause-err : goal.returns-in_err-say_number-clause-err
returns-in_err-say_number-clause-err c =
    fails _ c.from_residual.result
    (front_so_far (λ n. 44 ∷ decimal n) c.args.numbers.now c.loop-number.number-index _ _ _ _ c.loop-number-test.true (λ d. get_or_default c.args.numbers.now c.loop-number.number-index _ d c.loop-number-test.true)
    c.in_err-say_number.ensures.err c.loop-number.invariant)
