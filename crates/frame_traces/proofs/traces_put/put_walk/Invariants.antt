-- The packets so far were put, and they are bytes.
use Rattle.std.proofs.Common.{Ok, take}
use Rattle.frame_traces.proofs.TraceLemmas.{PutsSoFar}
use Rattle.frame_traces.proofs.traces_put.put_walk.Given as goal

abbrev pub invariant-loop-k : goal.invariant-loop-k
invariant-loop-k g l = PutsSoFar g.D.Desk.tells (g.D.Desk.at l.initial.desk) (g.D.Desk.at l.desk) (g.D.Desk.held l.initial.desk) (g.D.Desk.held l.desk) l.initial.trace l.trace (Ok tt) l.form l.times.0 l.times.1 l.missing (take l.k l.work.packets)
