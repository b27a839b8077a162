-- The laws of readings.
use Rattle.route_texts.proofs.TextReadings.{one_reading, never_both, one_refusal}
use Rattle.route_texts.proofs.laws.a_text_has_one_reading.Goals as goal

pub returns-clause-routes : goal.returns-clause-routes
returns-clause-routes c = one_reading

pub returns-clause-never_both : goal.returns-clause-never_both
returns-clause-never_both c = never_both

pub returns-clause-refusal : goal.returns-clause-refusal
returns-clause-refusal c = one_refusal
