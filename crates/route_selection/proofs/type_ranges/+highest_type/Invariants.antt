use Rattle.std.proofs.Common.{length}
use Rattle.route_selection.proofs.type_ranges.+highest_type.Given as goal

abbrev pub decreases-highest_type : goal.decreases-highest_type
decreases-highest_type l = length l.inside.now
