-- The laws of readings.
use Rattle.bgp_update.proofs.UpdateReadings.{one_update, never_both, one_refusal}
use Rattle.bgp_update.proofs.laws.one_reading.Goals as goal

pub returns-clause-one_update : goal.returns-clause-one_update
returns-clause-one_update c = one_update

pub returns-clause-never_both : goal.returns-clause-never_both
returns-clause-never_both c = never_both

pub returns-clause-one_refusal : goal.returns-clause-one_refusal
returns-clause-one_refusal c = one_refusal
