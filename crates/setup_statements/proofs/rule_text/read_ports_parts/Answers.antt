-- The lowest port is one number, so the range of the highest is known.
use Rattle.std.proofs.Common.{◌≡◌, arith, []}
use Rattle.std.proofs.lemmas.Fmt.{decimal_injective}
use Rattle.setup_statements.proofs.StepLemmas.{head_is, tail_is}
use Rattle.setup_statements.proofs.rule_text.read_ports_parts.Goals as goal

pub returns-in_default-next_number : goal.returns-in_default-next_number
returns-in_default-next_number c = λ v fits e.
    let second = tail_is _ _ _ _ _ c.in-Some.ensures.1 e in
    let low : c.in-Some.low ≡ v.0 =
    decimal_injective c.in-Some.low v.0 (omega (arith, c.in-Some.ensures.0)) (omega (arith, fits)) (head_is _ _ _ _ _ c.in-Some.ensures.1 e) in
    c.in_default-next_number.ensures v.1 [] (omega (arith, low, fits), fits.1) second
