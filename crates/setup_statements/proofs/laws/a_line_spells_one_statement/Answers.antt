-- Each word spells one value, and the first two words decide what the others are.
use Rattle.setup_statements.proofs.StatementLemmas.{one_statement}
use Rattle.setup_statements.proofs.laws.a_line_spells_one_statement.Goals as goal

pub returns : goal.returns
returns c = one_statement
