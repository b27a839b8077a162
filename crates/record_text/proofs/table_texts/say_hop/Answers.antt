-- The parts in turn, and a front of one of them.
use Rattle.std.proofs.Common.{◌∙◌, ◌++◌, ◌∷◌, ap}
use Rattle.std.specs.Fmt.{decimal}
use Rattle.text_words.proofs.PrintingLemmas.{fails}
use Rattle.record_text.proofs.AppendLemmas.{front_here, front_behind, front_same}
use Rattle.record_text.proofs.table_texts.say_hop.Goals as goal

pub returns-in_err-say_number-clause-err : goal.returns-in_err-say_number-clause-err
returns-in_err-say_number-clause-err c =
    fails _ c.from_residual.result (front_here _ _ _ _ (front_same _ _ _ _ (ap (λ n. 32 ∷ decimal n) c.from.ensures) c.in_err-say_number.ensures.err))

pub returns-in_err-say_choice-clause-err : goal.returns-in_err-say_choice-clause-err
returns-in_err-say_choice-clause-err c =
    fails _ c.from_residual-in_err-say_choice.result
    (front_behind _ _ _ _ _ (c.in_ok-say_number.ensures.ok ∙ ap (λ n. c.args.out.now ++ 32 ∷ decimal n) c.from.ensures)
    (front_behind _ _ _ _ _ c.in_ok-push_all.ensures.ok c.in_err-say_choice.ensures.err))
