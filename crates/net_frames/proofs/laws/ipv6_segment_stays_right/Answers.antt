use Rattle.net_frames.proofs.Ipv6Laws.{ipv6_marked, ipv6_readdressed, ipv6_lowered, ipv6_popped, ipv6_pushed}
use Rattle.net_frames.proofs.laws.ipv6_segment_stays_right.Goals as goal

pub returns : goal.returns
returns c = record {
  marked = ipv6_marked;
  readdressed = ipv6_readdressed;
  lowered = ipv6_lowered;
  popped = ipv6_popped;
  pushed = ipv6_pushed;
}
