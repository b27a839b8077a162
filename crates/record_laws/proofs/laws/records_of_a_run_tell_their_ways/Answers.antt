-- Each record tells a walk over the tables of its versions, which the laws of walks speak of.
use Rattle.record_laws.proofs.RunWays.{ways}
use Rattle.record_laws.proofs.laws.records_of_a_run_tell_their_ways.Goals as goal

pub returns : goal.returns
returns c = ways (record {
  turns = c.a_walk_is_short.ensures.turns;
  lookups = c.a_walk_is_short.ensures.lookups;
  falls = c.the_index_falls.ensures;
  goes = c.a_frame_goes_straight.ensures;
  one = c.changes_have_one_table.ensures;
  is = c.what_changes_leave_is_a_table.ensures;
})
