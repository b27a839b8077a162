-- The routes after the changes are the same, and their selection is one.
use Rattle.control_histories.proofs.TableLemmas.{one_table}
use Rattle.control_histories.proofs.laws.changes_have_one_table.Goals as goal

pub returns : goal.returns
returns c = one_table c.last_words_have_one_selection.ensures
