use Rattle.std.proofs.Common.{◌≡◌, ◌-◌, length}
use Rattle.path_selection.specs.Published.{StartsWith}
use Rattle.classifier.specs.Stations.{first_station}
use Rattle.forwarder.specs.Walks.{functions_of}
use Rattle.forwarder.proofs.WalkSteps.{SoFar}
use Rattle.forwarder.proofs.walking.walk.Given as goal

abbrev pub invariant-turns : goal.invariant-turns
invariant-turns g l = record {
  origin : g.T.Tables.origin l.tables ≡ g.T.Tables.origin l.initial.tables;
  grows : StartsWith (g.T.Tables.known l.tables) (g.T.Tables.known l.initial.tables);
  refused : g.T.Tables.refused l.tables ≡ g.T.Tables.refused l.initial.tables;
  room : length l.header ≡ 252;
  so_far : SoFar (functions_of l.bounds) (first_station l.fn.ingress l.fn.frame l.nsh) l.spi (g.T.Tables.known l.tables) (g.T.Tables.seen l.initial.tables) (g.T.Tables.seen l.tables) l.versions.items l.visits.items l.forwarder l.frame l.header l.size l.trace;
  kept : l.trace.kept ≡ l.fn.trace.kept;
}

abbrev pub decreases-turns : goal.decreases-turns
decreases-turns g l = 63 - length l.versions.items
