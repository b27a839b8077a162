use Rattle.route_selection.proofs.OneSelection.{last_selection}
use Rattle.route_selection.proofs.laws.last_words_have_one_selection.Goals as goal

pub returns : goal.returns
returns c = last_selection
