use Rattle.net_frames.proofs.SegmentLaws.{segment_marked, segment_readdressed, segment_lowered, unused_readdressed}
use Rattle.net_frames.proofs.laws.segment_stays_right.Goals as goal

pub returns : goal.returns
returns c = record {
  marked = segment_marked;
  readdressed = segment_readdressed;
  lowered = segment_lowered;
  unused = unused_readdressed;
}
