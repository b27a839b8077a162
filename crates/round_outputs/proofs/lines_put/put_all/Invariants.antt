-- The lines of the records so far were put.
use Rattle.std.proofs.Common.{Ok, take}
use Rattle.worker_run.specs.Batches.{records_in}
use Rattle.worker_run.specs.Outputs.{lines_from}
use Rattle.round_outputs.specs.RoundOutputs.{Puts}
use Rattle.round_outputs.proofs.lines_put.put_all.Given as goal

abbrev pub invariant-loop-i : goal.invariant-loop-i
invariant-loop-i g l = Puts g.D.Desk.tells (g.D.Desk.at l.initial.desk) (g.D.Desk.at l.desk) (g.D.Desk.held l.initial.desk) (g.D.Desk.held l.desk) l.initial.lines l.lines (Ok tt) (lines_from l.roster l.place (records_in (take l.i l.batch)))
