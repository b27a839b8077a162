-- Bytes are one of two.
use Rattle.sfp_attribute.proofs.TotalReadings.{one_of_two}
use Rattle.sfp_attribute.proofs.laws.every_value_is_read_or_refused.Goals as goal

pub returns : goal.returns
returns c = one_of_two
