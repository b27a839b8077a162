-- The laws of the layers below make each step one.
use Rattle.session_machine.proofs.OneRun.{one_run}
use Rattle.session_machine.proofs.laws.a_history_has_one_run.Goals as goal

pub returns : goal.returns
returns c = one_run (record {
  cut = c.one_reading.ensures.one_cut;
  refusal = c.one_reading.ensures.one_refusal;
  update = c.one_reading-2.ensures.one_update;
  never_both = c.one_reading-2.ensures.never_both;
  change = c.an_update_has_one_change.ensures;
})
