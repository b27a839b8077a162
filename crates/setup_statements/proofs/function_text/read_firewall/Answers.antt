-- The lowest port is one number, so the range of the highest is known.
use Rattle.std.proofs.Common.{◌≡◌, arith, []}
use Rattle.std.proofs.lemmas.Fmt.{decimal_injective}
use Rattle.setup_statements.proofs.StepLemmas.{head_is, tail_is}
use Rattle.setup_statements.proofs.function_text.read_firewall.Goals as goal

pub returns-in_default-next_number-2 : goal.returns-in_default-next_number-2
returns-in_default-next_number-2 c = λ v fits e.
    let second = tail_is _ _ _ _ _ c.in-Some.ensures.1 e in
    let third = tail_is _ _ _ _ _ c.in-Some-next_number.ensures.1 second in
    let low : c.in-Some-next_number.low ≡ v.1 =
    decimal_injective c.in-Some-next_number.low v.1 (omega (arith, c.in-Some-next_number.ensures.0)) (omega (arith, fits)) (head_is _ _ _ _ _ c.in-Some-next_number.ensures.1 second) in
    c.in_default-next_number-2.ensures v.2 [] (omega (arith, low, fits), fits.2) third
