-- The parts in turn, and a front of one of them.
use Rattle.std.proofs.Common.{◌∷◌, ◌++◌, [], ap}
use Rattle.std.specs.Fmt.{decimal}
use Rattle.text_words.proofs.PrintingLemmas.{fails}
use Rattle.record_text.proofs.AppendLemmas.{front_here, front_behind, front_none, front_same}
use Rattle.record_text.proofs.end_text.say_index.Goals as goal

pub returns-in_err-say_reason_word-clause-err : goal.returns-in_err-say_reason_word-clause-err
returns-in_err-say_reason_word-clause-err c =
    fails _ c.from_residual.result (front_here _ _ _ _ c.in_err-say_reason_word.ensures.err)

pub returns-in_err-say_number-clause-err : goal.returns-in_err-say_number-clause-err
returns-in_err-say_number-clause-err c =
    fails _ c.from_residual-in_err-say_number.result
    (front_behind _ _ _ _ _ c.in_ok-say_reason_word.ensures.ok
    (front_same _ _ _ _ (ap (λ n. 40 ∷ (decimal n ++ 41 ∷ [])) c.from.ensures) (front_here _ _ (41 ∷ []) _ c.in_err-say_number.ensures.err)))

pub returns-in_err-push_all-clause-err : goal.returns-in_err-push_all-clause-err
returns-in_err-push_all-clause-err c =
    fails _ c.from_residual-in_err-push_all.result
    (front_behind _ _ _ _ _ c.in_ok-say_reason_word.ensures.ok
    (front_same _ _ _ _ (ap (λ n. 40 ∷ (decimal n ++ 41 ∷ [])) c.from.ensures)
    (front_behind _ (40 ∷ decimal c.from.result) (41 ∷ []) _ _ c.in_ok-say_number.ensures.ok (front_none _ _ _ c.in_err-push_all.ensures.err))))
