-- The lookups so far left the origin, and none was refused.
use Rattle.std.proofs.Common.{◌≡◌}
use Rattle.window_rows.proofs.sums.sum_of.Given as goal

abbrev pub invariant-loop-turn : goal.invariant-loop-turn
invariant-loop-turn g l = record {
  origin : g.T.Tables.origin l.tables ≡ g.T.Tables.origin l.initial.tables;
  refused : g.T.Tables.refused l.tables ≡ g.T.Tables.refused l.initial.tables;
}
