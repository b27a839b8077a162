-- Bytes are one of two.
use Rattle.bgp_update.proofs.TotalReadings.{one_of_two}
use Rattle.bgp_update.proofs.laws.every_content_is_read_or_refused.Goals as goal

pub returns : goal.returns
returns c = one_of_two
