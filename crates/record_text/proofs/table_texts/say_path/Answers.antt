-- The parts in turn, and a front of one of them.
use Rattle.std.proofs.Common.{◌∙◌, ◌∷◌, ◌++◌, [], ap, sym}
use Rattle.std.specs.Prelude.{codes}
use Rattle.std.specs.Fmt.{decimal}
use Rattle.record_text.specs.Steps.{hops_behind}
use Rattle.text_words.proofs.PrintingLemmas.{fails}
use Rattle.record_text.proofs.AppendLemmas.{front_here, front_behind, front_same, front_none, all_behind}
use Rattle.record_text.proofs.TableLemmas.{path_in_turn}
use Rattle.record_text.proofs.table_texts.say_path.Goals as goal

pub returns-in_err-say_number-clause-err : goal.returns-in_err-say_number-clause-err
returns-in_err-say_number-clause-err c =
    let spi = c.from.ensures ∙ c.number.ensures.value ∙ c.spi.ensures.value in
    fails _ c.from_residual.result
    (front_same _ _ _ _ (sym (path_in_turn c.args.roster.now c.args.path.now))
    (front_here _ _ _ _ (front_same _ _ _ _ (ap (λ n. codes "path " ++ decimal n) spi) c.in_err-say_number.ensures.err)))

pub returns-in_err-say_hops-clause-err : goal.returns-in_err-say_hops-clause-err
returns-in_err-say_hops-clause-err c =
    let spi = c.from.ensures ∙ c.number.ensures.value ∙ c.spi.ensures.value in
    fails _ c.from_residual-in_err-say_hops.result
    (front_same _ _ _ _ (sym (path_in_turn c.args.roster.now c.args.path.now))
    (front_behind _ _ _ _ _ (c.in_ok-say_number.ensures.ok ∙ ap (λ n. c.args.out.now ++ (codes "path " ++ decimal n)) spi)
    (front_here _ _ _ _ (front_same _ _ _ _ (ap (λ rs. hops_behind c.args.roster.now rs) c.rows.ensures.value) c.in_err-say_hops.ensures.err))))

pub returns-in_err-push_all-clause-err : goal.returns-in_err-push_all-clause-err
returns-in_err-push_all-clause-err c =
    let spi = c.from.ensures ∙ c.number.ensures.value ∙ c.spi.ensures.value in
    fails _ c.from_residual-in_err-push_all.result
    (front_same _ _ _ _ (sym (path_in_turn c.args.roster.now c.args.path.now))
    (front_behind _ _ _ _ _ (c.in_ok-say_number.ensures.ok ∙ ap (λ n. c.args.out.now ++ (codes "path " ++ decimal n)) spi)
    (front_behind _ _ _ _ _ (c.in_ok-say_hops.ensures.ok ∙ ap (λ rs. c.say_number.new.out ++ hops_behind c.args.roster.now rs) c.rows.ensures.value)
    (front_none _ _ _ c.in_err-push_all.ensures.err))))

pub returns-clause-ok : goal.returns-clause-ok
returns-clause-ok c =
    let spi = c.from.ensures ∙ c.number.ensures.value ∙ c.spi.ensures.value in
    all_behind _ (codes "path " ++ decimal c.args.path.now.spi) _ _ _ (c.in_ok-say_number.ensures.ok ∙ ap (λ n. c.args.out.now ++ (codes "path " ++ decimal n)) spi)
    (all_behind _ (hops_behind c.args.roster.now c.args.path.now.rows) (10 ∷ []) _ _ (c.in_ok-say_hops.ensures.ok ∙ ap (λ rs. c.say_number.new.out ++ hops_behind c.args.roster.now rs) c.rows.ensures.value)
    c.in_ok-push_all.ensures.ok)
    ∙ ap (λ t. c.args.out.now ++ t) (sym (path_in_turn c.args.roster.now c.args.path.now))
