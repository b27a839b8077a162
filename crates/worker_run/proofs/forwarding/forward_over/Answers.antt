-- The one table is all that a lookup can name.
use Rattle.std.proofs.Common.{ap, subst, ◌∙◌}
use Rattle.path_selection.specs.Published.{Published, StartsWith, one_table}
use Rattle.worker_run.specs.Batches.{Carried}
use Rattle.worker_run.proofs.StillLemmas.{forwards, still_known}
use Rattle.worker_run.proofs.forwarding.forward_over.Goals as goal

pub returns : goal.returns
returns c =
    let version = c.args.version in
    let table = c.args.table.now in
    let after : Published = c.forward.new.tables in
    let began : StartsWith (one_table after.version after.table) (one_table version table) =
    subst (λ (p : Published). StartsWith (one_table after.version after.table) (one_table p.version p.table)) c.new-still.ensures c.forward.ensures.grows in
    forwards c.args.setup.now version table c.args.slot.now (one_table after.version after.table) c.new-still.result.version after.version c.as_slice.result.now c.slot.inside.original c.forward.new.work c.in-Some.outcome
    (c.as_slice.ensures ∙ ap (λ (s : Carried). s.frame.bytes) c.slot.view_is) (ap (λ (s : Carried). s.frame.original) c.slot.view_is) (still_known after version table began)
    c.in-Some.ensures.record.1 c.in-Some.ensures.frame
