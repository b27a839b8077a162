-- What is read of the first bytes is shown, whatever follows.
use Rattle.std.proofs.Common.{ap, Err}
use Rattle.sfc_texts.proofs.TextLemmas.{if_ok_so}
use Rattle.sfc_texts.proofs.NshReadings.{header_of_front, refusal_of_front, few_are_short}
use Rattle.sfc_texts.proofs.nsh_text.nsh_lines_of_front.Goals as goal

-- they begin with the header
pub returns-in-Ok : goal.returns-in-Ok
returns-in-Ok c = λ rest count.
    if_ok_so _ _ c.header_text.result (λ text is. header_of_front c.args.front.now rest c.in-Ok.nsh c.in-Ok.size c.args.behind text c.in-Ok.ensures.found count is) c.header_text.ensures

-- they are refused
pub returns-in-Err : goal.returns-in-Err
returns-in-Err c = λ rest count.
    if_ok_so _ _ c.refusal_text.result
    (λ text is. refusal_of_front c.args.front.now rest c.in-Err.fault c.args.behind text c.in-Err.ensures.refused
    (few_are_short c.args.front.now c.in-Err.fault (λ more short. c.in-Err.ensures.enough _ more (ap Err short))) c.requires.enough count is)
    c.refusal_text.ensures
