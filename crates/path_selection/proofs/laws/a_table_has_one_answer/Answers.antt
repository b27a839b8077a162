use Rattle.path_selection.proofs.OneAnswer.{one_answer}
use Rattle.path_selection.proofs.laws.a_table_has_one_answer.Goals as goal

pub returns : goal.returns
returns c = one_answer
