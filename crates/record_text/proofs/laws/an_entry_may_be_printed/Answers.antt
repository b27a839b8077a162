-- An instance in its range is of the roster.
use Rattle.record_text.proofs.EntryLemmas.{entry_names}
use Rattle.record_text.proofs.laws.an_entry_may_be_printed.Goals as goal

pub returns : goal.returns
returns c = entry_names
