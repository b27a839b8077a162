-- The first line that is left decides, or the text behind it does.
use Rattle.std.proofs.Common.{length, ap, ◌∙◌}
use Rattle.std.specs.Prelude.{◌==◌}
use Rattle.record_text.proofs.TextLemmas.{no_line_end, no_line_other, not_empty, reading_none, reading_more}
use Rattle.record_text.proofs.laws.every_text_has_a_reading.Goals as goal

pub returns-in_default : goal.returns-in_default
returns-in_default c =
    let roster = c.args.roster.now in
    c.lines.invariant (reading_none roster c.lines.rest.now
    (λ none. let wrong = c.lines-test.ensures ∙ ap (λ xs. length xs == 0) none in absurd cc)
    (no_line_end roster c.lines.rest.now c.in_default.ensures))

pub returns-in_default-parse_record : goal.returns-in_default-parse_record
returns-in_default-parse_record c =
    let roster = c.args.roster.now in
    c.lines.invariant (reading_none roster c.lines.rest.now (not_empty _ c.in-Some.line.now c.in-Some.behind.now c.in-Some.ensures.0)
    (no_line_other roster c.roster_is_kept.ensures _ c.in-Some.line.now c.in-Some.behind.now c.in-Some.ensures.0 c.in-Some.ensures.1 c.in_default-parse_record.ensures))

pub lines-preserved : goal.lines-preserved
lines-preserved c = λ read.
    c.lines.invariant (reading_more c.args.roster.now c.lines.rest.now c.in-Some.line.now c.in-Some.behind.now c.in-Some-parse_record.field-0
    c.in-Some-parse_record.ensures.0 c.in-Some-parse_record.ensures.1 c.in-Some.ensures.0 read)
