-- The parts in turn, and a front of one of them.
use Rattle.std.proofs.Common.{◌∙◌, ◌++◌, ap, sym}
use Rattle.std.specs.Prelude.{map, codes}
use Rattle.std.specs.Fmt.{decimal}
use Rattle.text_words.proofs.PrintingLemmas.{fails}
use Rattle.record_text.specs.Lists.{list_text}
use Rattle.record_text.specs.Lines.{path_text}
use Rattle.record_text.specs.Steps.{way_text}
use Rattle.record_text.proofs.AppendLemmas.{front_here, front_behind, front_same, all_behind}
use Rattle.record_text.proofs.EntryLemmas.{line_in_turn}
use Rattle.record_text.proofs.record_line.append_record.Goals as goal

pub returns-in_err-say_number-clause-err : goal.returns-in_err-say_number-clause-err
returns-in_err-say_number-clause-err c =
    fails _ c.from_residual-in_err-say_number.result
    (front_same _ _ _ _ (sym (line_in_turn c.args.roster.now c.args.number c.args.entry.now))
    (front_behind _ _ _ _ _ c.in_ok-print_number.ensures.ok
    (front_here _ _ _ _ (front_same _ _ _ _ (ap (λ n. codes " worker=" ++ decimal n) c.from.ensures) c.in_err-say_number.ensures.err))))

pub returns-in_err-say_path-clause-err : goal.returns-in_err-say_path-clause-err
returns-in_err-say_path-clause-err c =
    fails _ c.from_residual-in_err-say_path.result
    (front_same _ _ _ _ (sym (line_in_turn c.args.roster.now c.args.number c.args.entry.now))
    (front_behind _ _ _ _ _ c.in_ok-print_number.ensures.ok
    (front_behind _ _ _ _ _ (c.in_ok-say_number.ensures.ok ∙ ap (λ n. c.print_number.new.out ++ (codes " worker=" ++ decimal n)) c.from.ensures)
    (front_here _ _ _ _ c.in_err-say_path.ensures.err))))

pub returns-in_err-say_versions-clause-err : goal.returns-in_err-say_versions-clause-err
returns-in_err-say_versions-clause-err c =
    fails _ c.from_residual-in_err-say_versions.result
    (front_same _ _ _ _ (sym (line_in_turn c.args.roster.now c.args.number c.args.entry.now))
    (front_behind _ _ _ _ _ c.in_ok-print_number.ensures.ok
    (front_behind _ _ _ _ _ (c.in_ok-say_number.ensures.ok ∙ ap (λ n. c.print_number.new.out ++ (codes " worker=" ++ decimal n)) c.from.ensures)
    (front_behind _ _ _ _ _ c.in_ok-say_path.ensures.ok
    (front_here _ _ _ _ (front_same _ _ _ _ (ap (λ vs. codes " versions=" ++ list_text (map decimal vs)) c.as_slice.ensures.value) c.in_err-say_versions.ensures.err))))))

pub returns-in_err-say_way-clause-err : goal.returns-in_err-say_way-clause-err
returns-in_err-say_way-clause-err c =
    fails _ c.from_residual-in_err-say_way.result
    (front_same _ _ _ _ (sym (line_in_turn c.args.roster.now c.args.number c.args.entry.now))
    (front_behind _ _ _ _ _ c.in_ok-print_number.ensures.ok
    (front_behind _ _ _ _ _ (c.in_ok-say_number.ensures.ok ∙ ap (λ n. c.print_number.new.out ++ (codes " worker=" ++ decimal n)) c.from.ensures)
    (front_behind _ _ _ _ _ c.in_ok-say_path.ensures.ok
    (front_behind _ _ _ _ _ (c.in_ok-say_versions.ensures.ok ∙ ap (λ vs. c.say_path.new.out ++ (codes " versions=" ++ list_text (map decimal vs))) c.as_slice.ensures.value)
    c.in_err-say_way.ensures.err)))))

pub returns-clause-ok : goal.returns-clause-ok
returns-clause-ok c =
    let w = codes " worker=" ++ decimal c.args.entry.now.worker in
    let p = codes " path=" ++ path_text c.args.entry.now.path in
    let v = codes " versions=" ++ list_text (map decimal c.args.entry.now.versions.items) in
    let t = way_text c.args.roster.now c.args.entry.now in
    all_behind _ (decimal c.args.number) (w ++ (p ++ (v ++ t))) _ _ c.in_ok-print_number.ensures.ok
    (all_behind _ w (p ++ (v ++ t)) _ _ (c.in_ok-say_number.ensures.ok ∙ ap (λ n. c.print_number.new.out ++ (codes " worker=" ++ decimal n)) c.from.ensures)
    (all_behind _ p (v ++ t) _ _ c.in_ok-say_path.ensures.ok
    (all_behind _ v t _ _ (c.in_ok-say_versions.ensures.ok ∙ ap (λ vs. c.say_path.new.out ++ (codes " versions=" ++ list_text (map decimal vs))) c.as_slice.ensures.value)
    c.in_ok-say_way.ensures.ok)))
    ∙ ap (λ x. c.args.out.now ++ x) (sym (line_in_turn c.args.roster.now c.args.number c.args.entry.now))
