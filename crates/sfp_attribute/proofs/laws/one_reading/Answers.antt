-- The laws of readings.
use Rattle.sfp_attribute.proofs.SfpReadings.{one_value, never_both, one_refusal}
use Rattle.sfp_attribute.proofs.laws.one_reading.Goals as goal

pub returns-clause-one_value : goal.returns-clause-one_value
returns-clause-one_value c = one_value

pub returns-clause-never_both : goal.returns-clause-never_both
returns-clause-never_both c = never_both

pub returns-clause-one_refusal : goal.returns-clause-one_refusal
returns-clause-one_refusal c = one_refusal
