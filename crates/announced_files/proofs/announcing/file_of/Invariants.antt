-- The file of the segments so far.
use Rattle.std.proofs.Common.{◌≡◌, take}
use Rattle.control_files.specs.Segments.{segments_bytes}
use Rattle.announced_files.proofs.announcing.file_of.Given as goal

abbrev pub invariant-loop-segment : goal.invariant-loop-segment
invariant-loop-segment l = l.file ≡ segments_bytes (take l.segment-index l.segments)
