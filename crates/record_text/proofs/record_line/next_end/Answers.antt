-- What stands behind the label is read, and so the word is.
use Rattle.record_text.proofs.FieldLemmas.{reads_field}
use Rattle.record_text.proofs.record_line.next_end.Goals as goal

pub returns : goal.returns
returns c = reads_field _ _ _ _ _ _ _ c.in-Some.ensures c.read_end.ensures
