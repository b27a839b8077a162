-- The segments so far were appended.
use Rattle.std.proofs.Common.{◌≡◌, ◌++◌, take}
use Rattle.generate_command.proofs.memory_rounds.push_segments.Given as goal

abbrev pub invariant-segments : goal.invariant-segments
invariant-segments l = l.group ≡ l.initial.group ++ take l.segment-index l.segments
