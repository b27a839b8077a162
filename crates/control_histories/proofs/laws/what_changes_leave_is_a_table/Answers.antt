use Rattle.control_histories.proofs.TableLemmas.{is_table}
use Rattle.control_histories.proofs.laws.what_changes_leave_is_a_table.Goals as goal

pub returns : goal.returns
returns c = is_table
