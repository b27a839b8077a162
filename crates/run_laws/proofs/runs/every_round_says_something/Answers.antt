-- There are a log, a table of its changes, and a walk of each frame over that.
use Rattle.run_laws.proofs.RunExists.{some_saying}
use Rattle.run_laws.proofs.runs.every_round_says_something.Goals as goal

pub returns-clause-single : goal.returns-clause-single
returns-clause-single c = some_saying (record {
  walk = c.every_frame_has_a_walk.ensures;
  log = c.every_list_of_segments_has_a_log.ensures;
  taken = c.changes_of_a_log_are_taken.ensures;
  table = c.every_list_of_changes_has_a_table.ensures;
})

pub returns-clause-workers : goal.returns-clause-workers
returns-clause-workers c = λ setup workers history segments frames parts is some.
    let single = some_saying (record {
      walk = c.every_frame_has_a_walk.ensures;
      log = c.every_list_of_segments_has_a_log.ensures;
      taken = c.changes_of_a_log_are_taken.ensures;
      table = c.every_list_of_changes_has_a_table.ensures;
    }) setup history segments frames parts is in
    (single.0, c.a_single_run_is_a_run.ensures.round setup workers history segments frames single.0 some single.1)
