use Rattle.table_publish.proofs.LookLemmas.{known_at}
use Rattle.table_publish.proofs.laws.a_version_is_the_table_after_its_lists.Goals as goal

pub returns : goal.returns
returns c = known_at
