-- The run goes on from where it began, and each round takes a frame or a segment.
use Rattle.std.proofs.Common.{ℕ, ◌+◌, ◌-◌, ◌^◌}
use Rattle.sfc_desk.specs.Desks.{Shown}
use Rattle.sfc_desk.specs.declared.ports.Port.{Port}
use Rattle.sfc_config.specs.Parts.{Parts}
use Rattle.round_inputs.specs.Taking.{taken_by}
use Rattle.run_command.specs.ThreadedSteps.{AlongOn}
use Rattle.run_command.proofs.threaded_rounds.run_rounds.Given as goal

abbrev pub invariant-rounds : goal.invariant-rounds
invariant-rounds g l = (setup : Parts) (workers : ℕ) (then : Port → Shown) → AlongOn workers setup g.D.Desk.tells then (g.D.Desk.at l.initial.desk) l.initial.outputs l.initial.run → AlongOn workers setup g.D.Desk.tells then (g.D.Desk.at l.desk) l.outputs l.run

abbrev pub decreases-rounds : goal.decreases-rounds
decreases-rounds g l = 2 ^ 41 + 1 - taken_by l.run.inputs
