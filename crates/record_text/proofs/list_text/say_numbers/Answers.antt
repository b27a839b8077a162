-- The first number, and each other behind a comma.
use Rattle.std.proofs.Common.{sym, ap, ◌∙◌, ◌++◌}
use Rattle.std.specs.Prelude.{map}
use Rattle.std.specs.Fmt.{decimal}
use Rattle.record_text.specs.Lists.{list_text}
use Rattle.text_words.proofs.PrintingLemmas.{fails}
use Rattle.record_text.proofs.AppendLemmas.{front_behind, front_same, all_behind, join_behind}
use Rattle.record_text.proofs.list_text.say_numbers.Goals as goal

pub returns-in_err-say_other_numbers-in-Some-clause-err : goal.returns-in_err-say_other_numbers-in-Some-clause-err
returns-in_err-say_other_numbers-in-Some-clause-err c =
    fails _ c.from_residual-in_err-say_other_numbers-in-Some.result
    (front_same _ _ _ _ (sym (ap (λ ns. list_text (map decimal ns)) c.in-Some.ensures.cases.0 ∙ join_behind 44 decimal (decimal c.in-Some.first.now) c.in-Some.others.now))
    (front_behind _ _ _ _ _ c.in_ok-print_number-in-Some.ensures.ok c.in_err-say_other_numbers-in-Some.ensures.err))

pub returns-in_ok-say_other_numbers-in-Some-clause-ok : goal.returns-in_ok-say_other_numbers-in-Some-clause-ok
returns-in_ok-say_other_numbers-in-Some-clause-ok c =
    all_behind _ _ _ _ _ c.in_ok-print_number-in-Some.ensures.ok c.in_ok-say_other_numbers-in-Some.ensures.ok
    ∙ ap (λ t. c.args.out.now ++ t)
    (sym (ap (λ ns. list_text (map decimal ns)) c.in-Some.ensures.cases.0 ∙ join_behind 44 decimal (decimal c.in-Some.first.now) c.in-Some.others.now))
