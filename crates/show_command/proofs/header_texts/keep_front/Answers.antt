use Rattle.std.proofs.Common.{◌≡◌, min, ◌-◌, length, ◌∙◌, ap, subst}
use Rattle.show_command.proofs.HeaderLemmas.{if_ok_on, kept_on}
use Rattle.show_command.proofs.header_texts.keep_front.Goals as goal

-- what was taken begins with what is kept
pub returns-clause-front : goal.returns-clause-front
returns-clause-front c = λ taken is.
    if_ok_on c.push_all.result (λ new. new ∙ kept_on taken c.args.piece.now c.args.front.now c.min-most.result is
    (subst (λ n. c.min-most.result ≡ min (length c.args.piece.now) (252 - n)) (ap length c.as_slice.ensures) c.min-most.ensures))
    c.push_all.ensures.ok
