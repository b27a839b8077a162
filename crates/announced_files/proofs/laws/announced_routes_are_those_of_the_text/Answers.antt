use Rattle.announced_files.proofs.AnnouncedLemmas.{routes_heard}
use Rattle.announced_files.proofs.laws.announced_routes_are_those_of_the_text.Goals as goal

pub returns : goal.returns
returns c = routes_heard c.a_history_has_one_run.ensures
