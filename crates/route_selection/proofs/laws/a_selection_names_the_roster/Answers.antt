use Rattle.route_selection.proofs.NameLemmas.{names_roster}
use Rattle.route_selection.proofs.laws.a_selection_names_the_roster.Goals as goal

pub returns : goal.returns
returns c = names_roster
