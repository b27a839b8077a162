-- Line by line: a line spells one statement, which is taken in one way or refused for one first reason.
use Rattle.sfc_config.proofs.LawLemmas.{one_setup, one_refusal, setup_not_refused}
use Rattle.sfc_config.proofs.laws.a_text_has_one_reading.Goals as goal

pub returns : goal.returns
returns c = record { setup = one_setup; refusal = one_refusal; never_both = setup_not_refused }
