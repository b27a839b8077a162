-- the entries so far, and the text behind their lines
use Rattle.std.proofs.Common.{◌≡◌, ◌++◌, length}
use Rattle.std.specs.List.{All}
use Rattle.record_text.specs.Lines.{IsEntry}
use Rattle.record_text.specs.Records.{lines_text}
use Rattle.record_text.proofs.record_texts.parse_records.Given as goal

abbrev pub invariant-lines : goal.invariant-lines
invariant-lines l = record {
  fit : All (IsEntry l.roster) l.entries;
  cut : l.text ≡ lines_text l.roster l.entries ++ l.rest;
}

abbrev pub decreases-lines : goal.decreases-lines
decreases-lines l = length l.rest
