use Rattle.net_frames.proofs.TagLaws.{popped_header, popped_segment, pushed_header, pushed_segment}
use Rattle.net_frames.proofs.laws.a_tag_leaves_checksums_right.Goals as goal

pub returns : goal.returns
returns c = record {
  popped_header = popped_header;
  popped_segment = popped_segment;
  pushed_header = pushed_header;
  pushed_segment = pushed_segment;
}
