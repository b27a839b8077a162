-- The path at the place is written, or a front of it is.
use Rattle.std.proofs.Common.{◌<◌, length, arith, subst, sym}
use Rattle.record_text.specs.Tables.{path_words, ended_words, PathNames}
use Rattle.text_words.proofs.PrintingLemmas.{fails}
use Rattle.record_text.proofs.AppendLemmas.{next_so_far, front_so_far}
use Rattle.record_text.proofs.table_texts.say_paths.Goals as goal

pub say_path-requires : goal.say_path-requires
say_path-requires c =
    let lt : c.loop-i.i < length c.args.table.now = omega (arith, c.loop-i-test.true, c.len-i-end.ensures.value) in
    subst (PathNames c.args.roster.now) (sym (c.path.ensures c.path.result.now)) (c.requires c.loop-i.i c.path.result.now lt)

pub returns-in_err-say_path-clause-err : goal.returns-in_err-say_path-clause-err
returns-in_err-say_path-clause-err c =
    fails _ c.from_residual.result
    (front_so_far (λ path. ended_words (path_words c.args.roster.now path)) c.args.table.now c.loop-i.i c.path.result.now _ _ _ (omega (arith, c.loop-i-test.true, c.len-i-end.ensures.value)) c.path.ensures
    c.in_err-say_path.ensures.err c.loop-i.invariant)

pub loop-i-preserved : goal.loop-i-preserved
loop-i-preserved c =
    next_so_far (λ path. ended_words (path_words c.args.roster.now path)) c.args.table.now c.loop-i.i c.path.result.now _ _ _ (omega (arith, c.loop-i-test.true, c.len-i-end.ensures.value)) c.path.ensures
    c.in_ok-say_path.ensures.ok c.loop-i.invariant
