-- By induction on the rows.
use Rattle.wire_base.proofs.CodeLemmas.{found_both_ways}
use Rattle.wire_base.proofs.laws.rows_are_found_both_ways.Goals as goal

pub returns : goal.returns
returns c = found_both_ways
