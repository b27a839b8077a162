use Rattle.std.proofs.Common.{◌≡◌, List, ℕ, ◌++◌, inl, inr, refl, sym, ap, ◌∙◌, subst}
use Rattle.sfc_desk.specs.declared.ports.Port.TheVariants.{Source, Report}
use Rattle.sfc_desk.specs.Desks.{Shown}
use Rattle.commands.specs.declared.statuses.Status.TheVariants.{Ok}
use Rattle.commands.specs.Fronts.{IsFrontBehind}
use Rattle.show_command.specs.declared.show_words.Format.TheVariants.{Nsh}
use Rattle.show_command.proofs.SourceLemmas.{source_is_no_report, report_is_no_source, untouched, touched_on, counts_on, shows_quietly, shows_failed}
use Rattle.show_command.proofs.header_texts.show_header.Goals as goal

-- the source was read, and the lines were written
pub returns-in-Ok-report : goal.returns-in-Ok-report
returns-in-Ok-report g c =
    let tells = g.D.Desk.tells in
    let then = g.D.Desk.at c.args.desk.now in
    let mid = g.D.Desk.at c.header_text.new.desk in
    let now = g.D.Desk.at c.report.new.desk in
    let read = touched_on tells Source (g.D.Desk.held c.args.desk.now) (g.D.Desk.held c.header_text.new.desk) then then mid (inl refl) (untouched tells then c.requires.source) c.in-Ok.ensures.moves in
    shows_quietly Nsh tells then now Ok
    (touched_on tells Report (g.D.Desk.held c.header_text.new.desk) (g.D.Desk.held c.report.new.desk) then mid now (inr refl) read c.in-Ok-report.ensures.moves)
    (counts_on then mid now c.in-Ok.ensures.quiet c.in-Ok-report.ensures.quiet)
    (λ told. (
      c.in-Ok.ensures.within told,
      ap (λ (s : Shown). s.left) (c.in-Ok-report.ensures.moves.elsewhere Source source_is_no_report) ∙ c.in-Ok.ensures.end told,
      (
        c.in-Ok.text,
        c.in-Ok.ensures.text told,
        c.in-Ok-report.ensures.ok told ∙ (ap (λ (b : List ℕ). (mid Report).written ++ b) c.as_slice.ensures ∙ ap (λ (s : Shown). s.written ++ c.in-Ok.text) (c.in-Ok.ensures.moves.elsewhere Report report_is_no_source)),
      ),
    ))

-- a write failed
pub returns : goal.returns
returns g c =
    let tells = g.D.Desk.tells in
    let then = g.D.Desk.at c.args.desk.now in
    let mid = g.D.Desk.at c.header_text.new.desk in
    let now = g.D.Desk.at c.report.new.desk in
    let read = touched_on tells Source (g.D.Desk.held c.args.desk.now) (g.D.Desk.held c.header_text.new.desk) then then mid (inl refl) (untouched tells then c.requires.source) c.in-Ok.ensures.moves in
    shows_failed Nsh tells Report (g.D.Desk.held c.header_text.new.desk) (g.D.Desk.held c.report.new.desk) then mid now (inr refl) read c.in-Ok.ensures.quiet c.report.ensures.moves c.in-Err.ensures.cause
    (λ told text shows.
    let one : c.as_slice.result.now ≡ text = c.as_slice.ensures ∙ c.bytes_are_shown_once.ensures (then Source).left c.in-Ok.text text (c.in-Ok.ensures.text told) shows in
    subst (λ (b : List ℕ). IsFrontBehind (then Report).written (now Report).written b) one
    (subst (λ (s : Shown). IsFrontBehind s.written (now Report).written c.as_slice.result.now) (c.in-Ok.ensures.moves.elsewhere Report report_is_no_source) (c.report.ensures.front told)))
