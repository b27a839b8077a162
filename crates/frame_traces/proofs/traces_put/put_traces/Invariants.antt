-- What the frames so far hand over was put.
use Rattle.std.proofs.Common.{◌≡◌, true, List, ℕ, Ok, take}
use Rattle.control_files.specs.declared.segments.Segment.{Segment}
use Rattle.session_machine.specs.Groups.{Entry}
use Rattle.control_histories.specs.Logs.{changes_of}
use Rattle.worker_run.specs.Runners.{Stands}
use Rattle.round_outputs.specs.RoundOutputs.{Puts}
use Rattle.frame_traces.specs.Keeping.{PutsEach}
use Rattle.frame_traces.specs.Traces.{OneWalkEach, trace_packets}
use Rattle.frame_traces.proofs.TraceLemmas.{AreTraced}
use Rattle.frame_traces.proofs.traces_put.put_traces.Given as goal

abbrev pub invariant-loop-i : goal.invariant-loop-i
invariant-loop-i g l = record {
  kept : l.work.traced ≡ true;
  puts : (bytes : List ℕ) × Puts g.D.Desk.tells (g.D.Desk.at l.initial.desk) (g.D.Desk.at l.desk) (g.D.Desk.held l.initial.desk) (g.D.Desk.held l.desk) l.initial.trace l.trace (Ok tt) bytes;
  traces : (history : List Segment) (log : List Entry) → Stands l.runner history log → OneWalkEach l.runner.setup (changes_of log)
      → PutsEach g.D.Desk.tells (g.D.Desk.at l.initial.desk) (g.D.Desk.at l.desk) (g.D.Desk.held l.initial.desk) (g.D.Desk.held l.desk) l.initial.trace l.trace (Ok tt)
      (AreTraced l.runner.setup (changes_of log) (take l.i l.batch)) (trace_packets l.form);
}
