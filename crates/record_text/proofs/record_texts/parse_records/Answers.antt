-- Each line is one more of the grammar, or the first that is not in it.
use Rattle.std.proofs.Common.{◌≡◌, ◌++◌, refl, subst, sym, Err}
use Rattle.std.specs.List.{All}
use Rattle.std.proofs.lemmas.List.Elements.{All-push}
use Rattle.record_text.specs.Lines.{IsEntry}
use Rattle.record_text.specs.Records.{lines_text, Parses}
use Rattle.record_text.proofs.TextLemmas.{no_line_other, not_empty, refused_here, more_lines}
use Rattle.record_text.proofs.record_texts.parse_records.Goals as goal

pub returns-in_default-parse_record : goal.returns-in_default-parse_record
returns-in_default-parse_record c =
    let roster = c.args.roster.now in
    subst (λ f. Parses roster c.args.text.now (Err f)) (sym c.line_behind-in_default-parse_record.ensures)
    (refused_here roster c.args.text.now c.lines.rest.now c.lines.entries _ c.lines.invariant.fit c.lines.invariant.cut refl
    (not_empty _ c.in-Some.line.now c.in-Some.behind.now c.in-Some.ensures.0)
    (no_line_other roster c.roster_is_kept.ensures _ c.in-Some.line.now c.in-Some.behind.now c.in-Some.ensures.0 c.in-Some.ensures.1 c.in_default-parse_record.ensures))

pub lines-preserved : goal.lines-preserved
lines-preserved c =
    let roster = c.args.roster.now in
    record {
      fit = subst (All (IsEntry roster)) (sym c.in-Ok.ensures.ok)
          (All-push (IsEntry roster) c.lines.entries c.in-Some-parse_record.entry c.lines.invariant.fit c.in-Some-parse_record.ensures.0);
      cut = subst (λ es. c.args.text.now ≡ lines_text roster es ++ c.in-Some.behind.now) (sym c.in-Ok.ensures.ok)
          (more_lines roster c.args.text.now c.lines.rest.now c.in-Some.line.now c.in-Some.behind.now c.lines.entries c.in-Some-parse_record.entry
          c.lines.invariant.cut c.in-Some.ensures.0 c.in-Some-parse_record.ensures.1);
    }
