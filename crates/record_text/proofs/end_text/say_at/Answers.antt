-- The parts in turn, and a front of one of them.
use Rattle.text_words.proofs.PrintingLemmas.{fails}
use Rattle.record_text.proofs.AppendLemmas.{front_here, front_behind, front_none}
use Rattle.record_text.proofs.end_text.say_at.Goals as goal

pub returns-in_err-say_reason_word-clause-err : goal.returns-in_err-say_reason_word-clause-err
returns-in_err-say_reason_word-clause-err c =
    fails _ c.from_residual.result (front_here _ _ _ _ c.in_err-say_reason_word.ensures.err)

pub returns-in_err-push_all-clause-err : goal.returns-in_err-push_all-clause-err
returns-in_err-push_all-clause-err c =
    fails _ c.from_residual-in_err-push_all.result
    (front_behind _ _ _ _ _ c.in_ok-say_reason_word.ensures.ok (front_none _ _ _ c.in_err-push_all.ensures.err))

pub returns-in_err-say_instance-clause-err : goal.returns-in_err-say_instance-clause-err
returns-in_err-say_instance-clause-err c =
    fails _ c.from_residual-in_err-say_instance.result
    (front_behind _ _ _ _ _ c.in_ok-say_reason_word.ensures.ok
    (front_behind _ _ _ _ _ c.in_ok-push_all.ensures.ok (front_here _ _ _ _ c.in_err-say_instance.ensures.err)))

pub returns-in_err-push_all-2-clause-err : goal.returns-in_err-push_all-2-clause-err
returns-in_err-push_all-2-clause-err c =
    fails _ c.from_residual-in_err-push_all-2.result
    (front_behind _ _ _ _ _ c.in_ok-say_reason_word.ensures.ok
    (front_behind _ _ _ _ _ c.in_ok-push_all.ensures.ok
    (front_behind _ _ _ _ _ c.in_ok-say_instance.ensures.ok (front_none _ _ _ c.in_err-push_all-2.ensures.err))))
