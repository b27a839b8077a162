use Rattle.std.proofs.Common.{◌≡◌, ◌∙◌, ◌+◌, ◌<◌, suc, length, take, ap, arith}
use Rattle.path_selection.specs.declared.changes.Change.TheVariants.{Put}
use Rattle.path_selection.specs.Changes.{changed}
use Rattle.table_publish.proofs.CopyLemmas.{put_next}
use Rattle.table_publish.proofs.copies.copy_table.Goals as goal

-- the next path comes behind those before it
pub loop-i-preserved : goal.loop-i-preserved
loop-i-preserved c =
    let table = c.args.table.now in
    let p = c.in_ok-copy_path.field-0 in
    let inside : c.loop-i.i < length table = omega (arith, c.loop-i-test.true, c.len-i-end.ensures.value) in
    let next : suc c.loop-i.i ≡ c.loop-i.i + 1 = omega arith in
    c.in_ok-apply.ensures.ok ∙ (ap (λ t. changed t (Put p)) c.loop-i.invariant ∙ (put_next 0 table c.loop-i.i p c.len-i-end.ensures.kept inside (c.in_ok-copy_path.ensures ∙ c.path.ensures p) ∙ ap (λ n. take n table) next))
