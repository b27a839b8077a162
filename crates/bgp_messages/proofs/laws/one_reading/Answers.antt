-- The laws of readings.
use Rattle.bgp_messages.proofs.MessageReadings.{one_message, never_both, one_refusal, one_cut, first_of_cut}
use Rattle.bgp_messages.proofs.laws.one_reading.Goals as goal

pub returns-clause-one_message : goal.returns-clause-one_message
returns-clause-one_message c = one_message

pub returns-clause-never_both : goal.returns-clause-never_both
returns-clause-never_both c = never_both

pub returns-clause-one_refusal : goal.returns-clause-one_refusal
returns-clause-one_refusal c = one_refusal

pub returns-clause-one_cut : goal.returns-clause-one_cut
returns-clause-one_cut c = one_cut

pub returns-clause-first_of_cut : goal.returns-clause-first_of_cut
returns-clause-first_of_cut c = first_of_cut
