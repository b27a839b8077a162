use Rattle.std.proofs.Common.{length}
use Rattle.route_selection.proofs.type_ranges.+lowest_type.Given as goal

abbrev pub decreases-lowest_type : goal.decreases-lowest_type
decreases-lowest_type l = length l.inside.now
