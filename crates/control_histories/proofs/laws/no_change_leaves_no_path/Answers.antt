use Rattle.std.proofs.Common.{[], sym, subst}
use Rattle.control_histories.specs.Versions.{TableAfter}
use Rattle.control_histories.proofs.TableLemmas.{empty_table, no_path}
use Rattle.control_histories.proofs.laws.no_change_leaves_no_path.Goals as goal

pub returns : goal.returns
returns c = λ roster table. (no_path roster table, (λ none. subst (TableAfter roster []) (sym none) (empty_table roster)))
