-- The line of the version, and the lines of the paths.
use Rattle.std.proofs.Common.{◌∙◌, ◌++◌, ap, sym}
use Rattle.text_words.proofs.PrintingLemmas.{fails}
use Rattle.record_text.proofs.AppendLemmas.{front_here, front_behind, front_same, all_behind}
use Rattle.record_text.proofs.TableLemmas.{table_in_turn}
use Rattle.record_text.proofs.table_texts.append_table.Goals as goal

pub returns-in_err-say_version-clause-err : goal.returns-in_err-say_version-clause-err
returns-in_err-say_version-clause-err c =
    fails _ c.from_residual.result
    (front_same _ _ _ _ (sym (table_in_turn c.args.roster.now c.args.version c.args.table.now)) (front_here _ _ _ _ c.in_err-say_version.ensures.err))

pub returns-in_err-say_paths-clause-err : goal.returns-in_err-say_paths-clause-err
returns-in_err-say_paths-clause-err c =
    fails _ c.from_residual-in_err-say_paths.result
    (front_same _ _ _ _ (sym (table_in_turn c.args.roster.now c.args.version c.args.table.now))
    (front_behind _ _ _ _ _ c.in_ok-say_version.ensures.ok c.in_err-say_paths.ensures.err))

pub returns-clause-ok : goal.returns-clause-ok
returns-clause-ok c =
    all_behind _ _ _ _ _ c.in_ok-say_version.ensures.ok c.in_ok-say_paths.ensures.ok
    ∙ ap (λ t. c.args.out.now ++ t) (sym (table_in_turn c.args.roster.now c.args.version c.args.table.now))
