-- A line is cut at its spaces.
use Rattle.std.proofs.Common.{subst}
use Rattle.text_words.specs.Reading.{Reads}
use Rattle.record_text.specs.Lines.{IsEntry, record_words}
use Rattle.record_text.proofs.FieldLemmas.{reads_cut}
use Rattle.record_text.proofs.EntryLemmas.{cut_line, line_joined}
use Rattle.record_text.proofs.record_line.parse_record.Goals as goal

pub returns : goal.returns
returns c =
    let roster = c.args.roster.now in
    reads_cut _ _ _ 32 _ _ (cut_line roster c.roster_is_kept.ensures) (line_joined roster c.args.line.now)
    (subst (λ ws. Reads (IsEntry roster) (record_words roster) ws c.read_entry.result) c.of-words.ensures c.read_entry.ensures)
