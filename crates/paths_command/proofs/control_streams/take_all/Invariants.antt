-- The work on the control file goes on from where it began, and each turn uses up bytes or reads some.
use Rattle.std.proofs.Common.{◌≡◌, ◌+◌, ◌-◌, ◌*◌, ◌^◌, length}
use Rattle.sfc_desk.specs.Desks.{Shown}
use Rattle.sfc_desk.specs.declared.ports.Port.{Port}
use Rattle.paths_command.specs.PathsSteps.{StreamOn}
use Rattle.paths_command.proofs.control_streams.take_all.Given as goal

abbrev pub invariant-segments : goal.invariant-segments
invariant-segments g l = (then : Port → Shown) → StreamOn l.setup g.D.Desk.tells then (g.D.Desk.at l.initial.desk) l.initial.feed l.initial.run → StreamOn l.setup g.D.Desk.tells then (g.D.Desk.at l.desk) l.feed l.run

abbrev pub decreases-segments : goal.decreases-segments
decreases-segments g l = 2 * (2 ^ 40 - (l.feed.place + length l.feed.rest)) + length l.feed.rest
