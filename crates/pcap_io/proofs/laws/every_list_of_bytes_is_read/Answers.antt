-- The header and each packet is refused, held or whole.
use Rattle.pcap_io.proofs.TotalReadings.{every_reading}
use Rattle.pcap_io.proofs.laws.every_list_of_bytes_is_read.Goals as goal

pub returns : goal.returns
returns c = every_reading
