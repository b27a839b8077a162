-- One table of the changes, one walk over it.
use Rattle.worker_run.proofs.OneSaying.{one_walk}
use Rattle.frame_traces.proofs.laws.a_frame_has_one_single_walk.Goals as goal

pub returns : goal.returns
returns c = λ setup changes is frame r q. one_walk (record {
  verdict = c.a_frame_has_one_verdict.ensures;
  walk = c.a_frame_has_one_walk.ensures.walk;
  table = c.changes_have_one_table.ensures;
  log = c.segments_have_one_log.ensures;
}) setup changes frame r q is
