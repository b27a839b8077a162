-- An entry names instances of the roster.
use Rattle.record_text.proofs.EntryLemmas.{entry_names}
use Rattle.record_rows.proofs.record_rows.is_line_again.Goals as goal

pub print_record-requires : goal.print_record-requires
print_record-requires c = entry_names c.args.roster.now c.args.entry.now c.requires
