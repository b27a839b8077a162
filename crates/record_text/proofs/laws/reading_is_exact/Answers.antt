-- A text has one reading.
use Rattle.record_text.proofs.TextLemmas.{parses_records, parses_refused}
use Rattle.record_text.proofs.laws.reading_is_exact.Goals as goal

pub returns : goal.returns
returns c = record { records = parses_records; refusal = parses_refused }
