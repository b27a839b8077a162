-- The versions of the changes so far were shown.
use Rattle.std.proofs.Common.{◌≡◌, ℕ, List, ◌++◌, take}
use Rattle.sfc_desk.specs.declared.ports.Port.TheVariants.{Report}
use Rattle.sfc_desk.specs.Desks.{Moves}
use Rattle.sfc_routes.specs.declared.route_changes.RouteChange.{RouteChange}
use Rattle.commands.specs.Pieces.{SameCounts}
use Rattle.paths_command.specs.PathsSteps.{Shown}
use Rattle.paths_command.proofs.version_runs.take_changes.Given as goal

abbrev pub invariant-loop-change : goal.invariant-loop-change
invariant-loop-change g l = record {
  goes : (shown : List RouteChange) (before : List ℕ) → Shown l.roster g.D.Desk.tells l.initial.run shown before (g.D.Desk.at l.initial.desk Report).written → Shown l.roster g.D.Desk.tells l.run (shown ++ take l.change-index l.changes) before (g.D.Desk.at l.desk Report).written;
  sessions : l.run.sessions ≡ l.initial.run.sessions;
  quiet : SameCounts (g.D.Desk.at l.initial.desk) (g.D.Desk.at l.desk);
  moves : Moves g.D.Desk.tells Report (g.D.Desk.held l.initial.desk) (g.D.Desk.held l.desk) (g.D.Desk.at l.initial.desk) (g.D.Desk.at l.desk);
}
