-- The first word is the label and what stands behind it.
use Rattle.record_text.proofs.FieldLemmas.{next_is_field}
use Rattle.record_text.proofs.fields.next_field.Goals as goal

pub returns : goal.returns
returns c = next_is_field _ _ _ _ _ c.in-Some.ensures c.behind_label.ensures
