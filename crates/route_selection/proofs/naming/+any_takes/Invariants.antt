use Rattle.std.proofs.Common.{length}
use Rattle.route_selection.proofs.naming.+any_takes.Given as goal

abbrev pub decreases-any_takes : goal.decreases-any_takes
decreases-any_takes l = length l.rds.now
