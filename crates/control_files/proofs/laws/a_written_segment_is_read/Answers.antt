-- The segment and its bytes come last.
use Rattle.control_files.proofs.SegmentLists.{one_more_segment}
use Rattle.control_files.proofs.laws.a_written_segment_is_read.Goals as goal

pub returns : goal.returns
returns c = one_more_segment
