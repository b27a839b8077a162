-- Bytes are one of three, and streams are cut.
use Rattle.bgp_messages.proofs.TotalReadings.{one_of_three, some_cut}
use Rattle.bgp_messages.proofs.laws.every_stream_is_cut.Goals as goal

pub returns-clause-one_of_three : goal.returns-clause-one_of_three
returns-clause-one_of_three c = one_of_three

pub returns-clause-some_cut : goal.returns-clause-some_cut
returns-clause-some_cut c = some_cut
