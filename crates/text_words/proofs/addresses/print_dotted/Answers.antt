-- The pieces that were appended are the four numbers with points between them, or a front of that.
use Rattle.std.proofs.Common.{◌∙◌, ap, get_or}
use Rattle.text_words.proofs.DottedLemmas.{printed_in_turn, front_2, front_3, front_4, front_5, front_6}
use Rattle.text_words.proofs.PrintingLemmas.{fails}
use Rattle.text_words.proofs.addresses.print_dotted.Goals as goal

pub returns-clause-ok : goal.returns-clause-ok
returns-clause-ok c =
    printed_in_turn c.args.out.now c.args.octets.now
    c.in_ok-print_number.ensures.ok c.in_ok-push_all.ensures.ok c.in_ok-print_number-2.ensures.ok c.in_ok-push_all-2.ensures.ok
    c.in_ok-print_number-3.ensures.ok c.in_ok-push_all-3.ensures.ok c.in_ok-print_number-4.ensures.ok
    (c.from.ensures ∙ ap (λ o. get_or o 0 0) c.bytes-octets.ensures.value)
    (c.from-2.ensures ∙ ap (λ o. get_or o 1 0) c.bytes-octets.ensures.value)
    (c.from-3.ensures ∙ ap (λ o. get_or o 2 0) c.bytes-octets.ensures.value)
    (c.from-4.ensures ∙ ap (λ o. get_or o 3 0) c.bytes-octets.ensures.value)
    c.bytes-octets.ensures.len

pub returns-in_err-print_number-2-clause-err : goal.returns-in_err-print_number-2-clause-err
returns-in_err-print_number-2-clause-err c =
    fails _ c.from_residual-in_err-print_number-2.result (
    front_2 c.args.out.now c.args.octets.now c.in_ok-print_number.ensures.ok c.in_ok-push_all.ensures.ok c.in_err-print_number-2.ensures.err
    (c.from.ensures ∙ ap (λ o. get_or o 0 0) c.bytes-octets.ensures.value) c.bytes-octets.ensures.len)

pub returns-in_err-push_all-2-clause-err : goal.returns-in_err-push_all-2-clause-err
returns-in_err-push_all-2-clause-err c =
    fails _ c.from_residual-in_err-push_all-2.result (
    front_3 c.args.out.now c.args.octets.now c.in_ok-print_number.ensures.ok c.in_ok-push_all.ensures.ok c.in_ok-print_number-2.ensures.ok c.in_err-push_all-2.ensures.err
    (c.from.ensures ∙ ap (λ o. get_or o 0 0) c.bytes-octets.ensures.value) (c.from-2.ensures ∙ ap (λ o. get_or o 1 0) c.bytes-octets.ensures.value) c.bytes-octets.ensures.len)

pub returns-in_err-print_number-3-clause-err : goal.returns-in_err-print_number-3-clause-err
returns-in_err-print_number-3-clause-err c =
    fails _ c.from_residual-in_err-print_number-3.result (
    front_4 c.args.out.now c.args.octets.now c.in_ok-print_number.ensures.ok c.in_ok-push_all.ensures.ok c.in_ok-print_number-2.ensures.ok c.in_ok-push_all-2.ensures.ok c.in_err-print_number-3.ensures.err
    (c.from.ensures ∙ ap (λ o. get_or o 0 0) c.bytes-octets.ensures.value) (c.from-2.ensures ∙ ap (λ o. get_or o 1 0) c.bytes-octets.ensures.value) c.bytes-octets.ensures.len)

pub returns-in_err-push_all-3-clause-err : goal.returns-in_err-push_all-3-clause-err
returns-in_err-push_all-3-clause-err c =
    fails _ c.from_residual-in_err-push_all-3.result (
    front_5 c.args.out.now c.args.octets.now c.in_ok-print_number.ensures.ok c.in_ok-push_all.ensures.ok c.in_ok-print_number-2.ensures.ok c.in_ok-push_all-2.ensures.ok c.in_ok-print_number-3.ensures.ok c.in_err-push_all-3.ensures.err
    (c.from.ensures ∙ ap (λ o. get_or o 0 0) c.bytes-octets.ensures.value) (c.from-2.ensures ∙ ap (λ o. get_or o 1 0) c.bytes-octets.ensures.value) (c.from-3.ensures ∙ ap (λ o. get_or o 2 0) c.bytes-octets.ensures.value) c.bytes-octets.ensures.len)

pub returns-in_err-print_number-4-clause-err : goal.returns-in_err-print_number-4-clause-err
returns-in_err-print_number-4-clause-err c =
    fails _ c.from_residual-in_err-print_number-4.result (
    front_6 c.args.out.now c.args.octets.now c.in_ok-print_number.ensures.ok c.in_ok-push_all.ensures.ok c.in_ok-print_number-2.ensures.ok c.in_ok-push_all-2.ensures.ok c.in_ok-print_number-3.ensures.ok c.in_ok-push_all-3.ensures.ok c.in_err-print_number-4.ensures.err
    (c.from.ensures ∙ ap (λ o. get_or o 0 0) c.bytes-octets.ensures.value) (c.from-2.ensures ∙ ap (λ o. get_or o 1 0) c.bytes-octets.ensures.value) (c.from-3.ensures ∙ ap (λ o. get_or o 2 0) c.bytes-octets.ensures.value) c.bytes-octets.ensures.len)
