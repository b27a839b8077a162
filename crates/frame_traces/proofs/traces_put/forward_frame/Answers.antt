-- The one table is all that a lookup can name, and it is the one after all changes.
use Rattle.std.proofs.Common.{length, slice_index_or, ap, sym, subst, ◌∙◌, arith}
use Rattle.path_selection.specs.Published.{Published, StartsWith, one_table}
use Rattle.sfc_config.specs.Parts.{Parts}
use Rattle.control_histories.specs.Logs.{changes_of}
use Rattle.control_histories.specs.Versions.{TableAfter}
use Rattle.worker_run.proofs.StillLemmas.{still_known}
use Rattle.round_outputs.proofs.BatchLemmas.{no_frame}
use Rattle.frame_traces.specs.Keeping.{KeepsWalk}
use Rattle.frame_traces.proofs.TraceLemmas.{keeps_walk}
use Rattle.frame_traces.proofs.traces_put.forward_frame.Goals as goal

pub forward-requires-clause-captured : goal.forward-requires-clause-captured
forward-requires-clause-captured c κs =
    let within = c.requires.limits c.args.i no_frame c.requires.there in
    omega (arith, ap length (c.bytes_of.ensures no_frame), c.original_of.ensures no_frame, within.whole)

pub forward-requires-clause-limited : goal.forward-requires-clause-limited
forward-requires-clause-limited c κs =
    let within = c.requires.limits c.args.i no_frame c.requires.there in
    omega (arith, ap length (c.bytes_of.ensures no_frame), within.captured)

pub forward-requires-clause-short : goal.forward-requires-clause-short
forward-requires-clause-short c κs =
    let within = c.requires.limits c.args.i no_frame c.requires.there in
    omega (arith, c.original_of.ensures no_frame, within.original)

pub returns-clause-walk : goal.returns-clause-walk
returns-clause-walk c = λ history log stands d.
    let runner = c.args.runner.now in
    let frame = (slice_index_or c.args.batch.now c.args.i d).frame in
    let version = c.version.result in
    let table = c.table.result.now in
    let after : Published = c.forward.new.tables in
    let began : StartsWith (one_table after.version after.table) (one_table version table) =
    subst (λ (p : Published). StartsWith (one_table after.version after.table) (one_table p.version p.table)) c.new-still.ensures c.in-Some.ensures.grows in
    let made : TableAfter runner.setup.roster (changes_of log) table = subst (TableAfter runner.setup.roster (changes_of log)) (sym c.table.ensures) stands.publishes.table_is in
    let here : TableAfter c.setup.result.now.roster (changes_of log) table = subst (λ (s : Parts). TableAfter s.roster (changes_of log) table) (sym c.setup.ensures) made in
    subst (λ (s : Parts). KeepsWalk s (changes_of log) frame c.forward.new.work.packets) c.setup.ensures
    (keeps_walk c.setup.result.now (changes_of log) table version frame (one_table after.version after.table) c.new-still.result.version after.version c.bytes_of.result.now c.original_of.result c.forward.new.work c.in-Some.field-0
    here (c.version.ensures ∙ stands.publishes.follows.version) (c.bytes_of.ensures d) (c.original_of.ensures d) (still_known after version table began) (c.in-Some.ensures.traced ∙ c.requires.kept) c.in-Some.ensures.record.1)
