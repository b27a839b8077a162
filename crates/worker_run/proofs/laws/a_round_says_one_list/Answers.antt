-- One log, one table of its changes, one walk over it.
use Rattle.worker_run.proofs.OneSaying.{one_saying}
use Rattle.worker_run.proofs.laws.a_round_says_one_list.Goals as goal

pub returns : goal.returns
returns c = one_saying (record {
  verdict = c.a_frame_has_one_verdict.ensures;
  walk = c.a_frame_has_one_walk.ensures.walk;
  table = c.changes_have_one_table.ensures;
  log = c.segments_have_one_log.ensures;
})
