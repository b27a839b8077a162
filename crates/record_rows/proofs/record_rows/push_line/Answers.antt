-- An entry names instances of the roster.
use Rattle.record_text.proofs.EntryLemmas.{entry_names}
use Rattle.record_rows.proofs.record_rows.push_line.Goals as goal

pub append_record-requires : goal.append_record-requires
append_record-requires c = entry_names c.args.roster.now c.args.entry.now c.requires
