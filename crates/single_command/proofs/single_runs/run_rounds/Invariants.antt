-- The run goes on from where it began, and each round takes a frame or a segment.
use Rattle.std.proofs.Common.{◌+◌, ◌-◌, ◌^◌}
use Rattle.sfc_desk.specs.Desks.{Shown}
use Rattle.sfc_desk.specs.declared.ports.Port.{Port}
use Rattle.sfc_config.specs.Parts.{Parts}
use Rattle.round_inputs.specs.Taking.{taken_by}
use Rattle.worker_run.specs.Runs.{single_says}
use Rattle.file_runs.specs.RunPuts.{OutsOpen, run_means, waits_of}
use Rattle.file_runs.specs.RunSteps.{Along}
use Rattle.single_command.proofs.single_runs.run_rounds.Given as goal

abbrev pub invariant-rounds : goal.invariant-rounds
invariant-rounds g l = record {
  ready : OutsOpen (g.D.Desk.at l.desk) l.outputs;
  along : (setup : Parts) (then : Port → Shown) → Along (run_means (single_says setup) setup) setup g.D.Desk.tells then (g.D.Desk.at l.initial.desk) (waits_of l.initial.outputs) l.initial.run
      → Along (run_means (single_says setup) setup) setup g.D.Desk.tells then (g.D.Desk.at l.desk) (waits_of l.outputs) l.run;
}

abbrev pub decreases-rounds : goal.decreases-rounds
decreases-rounds g l = 2 ^ 41 + 1 - taken_by l.run.inputs
