-- The magic tells the form, and then each packet its frame.
use Rattle.pcap_io.proofs.OneReading.{one_capture}
use Rattle.pcap_io.proofs.laws.a_capture_has_one_reading.Goals as goal

pub returns : goal.returns
returns c = one_capture
