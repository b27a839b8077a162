-- The packets of the frames so far were put.
use Rattle.std.proofs.Common.{Ok, take}
use Rattle.worker_run.specs.Outputs.{packets_out}
use Rattle.round_outputs.specs.RoundOutputs.{Puts}
use Rattle.round_outputs.proofs.packets_put.put_all.Given as goal

abbrev pub invariant-loop-i : goal.invariant-loop-i
invariant-loop-i g l = Puts g.D.Desk.tells (g.D.Desk.at l.initial.desk) (g.D.Desk.at l.desk) (g.D.Desk.held l.initial.desk) (g.D.Desk.held l.desk) l.initial.egress l.egress (Ok tt) (packets_out l.form (take l.i l.batch))
