use Rattle.net_frames.proofs.HeaderLaws.{header_marked, header_readdressed, header_lowered}
use Rattle.net_frames.proofs.laws.header_stays_right.Goals as goal

pub returns : goal.returns
returns c = record { marked = header_marked; readdressed = header_readdressed; lowered = header_lowered }
