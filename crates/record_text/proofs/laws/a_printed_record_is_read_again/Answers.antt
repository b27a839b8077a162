-- One line is the text of one entry.
use Rattle.record_text.proofs.TextLemmas.{printed_record}
use Rattle.record_text.proofs.laws.a_printed_record_is_read_again.Goals as goal

pub returns : goal.returns
returns c = printed_record
