-- The address is one address, so the number of its bits is known.
use Rattle.std.proofs.Common.{◌≡◌, arith, [], ap, ◌∙◌}
use Rattle.classifier.specs.Rules.{address_bits}
use Rattle.setup_statements.proofs.StepLemmas.{head_is, tail_is}
use Rattle.setup_statements.proofs.OneLemmas.{one_address}
use Rattle.setup_statements.proofs.rule_text.read_prefix_parts.Goals as goal

pub returns-in_default-next_number : goal.returns-in_default-next_number
returns-in_default-next_number c = λ v fits e.
    let address : c.in-Some.address ≡ v.address =
    one_address c.in-Some.address v.address c.in-Some.ensures.0 fits.0 (head_is _ _ _ _ _ c.in-Some.ensures.1 e) in
    let bits = c.bits_of.ensures ∙ ap address_bits address in
    c.in_default-next_number.ensures v.bits [] (omega arith, omega (arith, bits, fits.1)) (tail_is _ _ _ _ _ c.in-Some.ensures.1 e)
