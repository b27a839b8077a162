-- The words behind the first two are those of the rule.
use Rattle.setup_statements.proofs.StepLemmas.{tail_is}
use Rattle.setup_statements.proofs.rule_text.read_rule.Goals as goal

pub returns-in_default-next_prefix-2 : goal.returns-in_default-next_prefix-2
returns-in_default-next_prefix-2 c = λ r told.
    c.in_default-next_prefix-2.ensures r.to _ told.fits.to_fits
    (tail_is _ _ _ _ _ c.in-Some-next_prefix.ensures.1 (tail_is _ _ _ _ _ c.in-Some.ensures.1 told.told))
