-- The frames so far are counted.
use Rattle.std.proofs.Common.{◌≡◌, ◌+◌, length, take}
use Rattle.std.specs.List.{filter}
use Rattle.worker_run.specs.Batches.{records_in}
use Rattle.generate_command.specs.Summaries.{drops, goes}
use Rattle.generate_command.proofs.summaries.Summary.count_round.Given as goal

abbrev pub invariant-frames : goal.invariant-frames
invariant-frames l =
    (l.self.frames ≡ l.initial.self.frames + l.i)
    × (l.self.egress ≡ l.initial.self.egress + length (filter goes (records_in (take l.i l.batch))))
    × (l.self.dropped ≡ l.initial.self.dropped + length (filter drops (records_in (take l.i l.batch))))
    × (l.self.last_version ≡ l.initial.self.last_version)
