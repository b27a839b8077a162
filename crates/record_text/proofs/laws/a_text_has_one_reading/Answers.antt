-- Line by line: a line spells one entry, and none has the byte that ends it.
use Rattle.record_text.proofs.TextLemmas.{one_line, one_records, one_refusal, read_not_refused}
use Rattle.record_text.proofs.laws.a_text_has_one_reading.Goals as goal

pub returns : goal.returns
returns c = record { line = one_line; records = one_records; refusal = one_refusal; never_both = read_not_refused }
