-- The frames so far were taken in.
use Rattle.std.proofs.Common.{◌≡◌, ◌++◌, map, take}
use Rattle.worker_run.specs.Batches.{pushed}
use Rattle.generate_command.proofs.memory_rounds.push_frames.Given as goal

abbrev pub invariant-frames : goal.invariant-frames
invariant-frames l = l.batch ≡ l.initial.batch ++ map pushed (take l.frame-index l.frames)
