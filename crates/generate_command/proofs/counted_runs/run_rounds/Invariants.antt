-- The run goes on from where it began, and each round takes a frame or a segment.
use Rattle.std.proofs.Common.{◌+◌, length}
use Rattle.sfc_config.specs.Parts.{Parts}
use Rattle.rounds.specs.Views.{Inputs}
use Rattle.generate_command.specs.GenerateSteps.{Along}
use Rattle.generate_command.proofs.counted_runs.run_rounds.Given as goal

abbrev pub invariant-rounds : goal.invariant-rounds
invariant-rounds l = (setup : Parts) (whole : Inputs) → Along setup whole l.initial.run l.initial.frames l.initial.segments → Along setup whole l.run l.frames_left l.segments_left

abbrev pub decreases-rounds : goal.decreases-rounds
decreases-rounds l = length l.frames_left + length l.segments_left
