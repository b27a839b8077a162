use Rattle.route_selection.proofs.FirstLemmas.{path_is_taken, accepted_has_path}
use Rattle.route_selection.proofs.laws.the_lowest_rd_is_taken.Goals as goal

pub returns : goal.returns
returns c = record { taken = path_is_taken; all = accepted_has_path }
