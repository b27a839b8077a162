-- No spelled word has a space, so a printed line is cut into the words that it was made of.
use Rattle.setup_statements.proofs.PrintedLemmas.{spelled_back}
use Rattle.setup_statements.proofs.laws.a_printed_line_is_read_again.Goals as goal

pub returns : goal.returns
returns c = spelled_back
