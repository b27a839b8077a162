-- No path is done with at first; in the end all are.
use Rattle.table_publish.proofs.DifferenceLemmas.{brings_none}
use Rattle.table_publish.proofs.differences.changes_between.Goals as goal

pub loop-at-init : goal.loop-at-init
loop-at-init c = rw (c.new-changes.ensures) (brings_none c.args.old.now c.args.new.now c.len-olds.ensures.kept)
