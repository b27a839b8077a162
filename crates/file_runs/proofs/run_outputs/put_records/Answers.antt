-- The lines were put, or a front of them.
use Rattle.std.proofs.Common.{Ok, Err, ap, sym, subst, ◌∙◌}
use Rattle.sfc_desk.specs.declared.ports.Port.{Port}
use Rattle.worker_run.specs.Batches.{records_in}
use Rattle.worker_run.specs.Outputs.{lines_from}
use Rattle.file_runs.specs.Means.{halt_of_fault}
use Rattle.file_runs.specs.RunPuts.{PutsAt}
use Rattle.file_runs.proofs.PutLemmas.{put_fault, put_ok}
use Rattle.file_runs.proofs.run_outputs.put_records.Goals as goal

pub returns-in-Ok : goal.returns-in-Ok
returns-in-Ok g c =
    let then = g.D.Desk.at c.args.desk.now in
    let now = g.D.Desk.at c.put_lines.new.desk in
    let had = g.D.Desk.held c.args.desk.now in
    let has = g.D.Desk.held c.put_lines.new.desk in
    let old = c.args.lines.now in
    let new = c.put_lines.new.lines in
    subst (λ (p : Port). PutsAt g.D.Desk.tells p then now had has old new (Ok tt) (lines_from c.args.roster.now c.args.place (records_in c.args.batch.now))) c.requires.own
    (put_ok g.D.Desk.tells old.port then now had has old new (lines_from c.args.roster.now c.args.place (records_in c.args.batch.now)) c.put_lines.ensures.port c.in-Ok.ensures.ok c.put_lines.ensures.front c.in-Ok.ensures.quiet c.put_lines.ensures.moves)

pub returns-in-Err : goal.returns-in-Err
returns-in-Err g c =
    let then = g.D.Desk.at c.args.desk.now in
    let now = g.D.Desk.at c.put_lines.new.desk in
    let had = g.D.Desk.held c.args.desk.now in
    let has = g.D.Desk.held c.put_lines.new.desk in
    let old = c.args.lines.now in
    let new = c.put_lines.new.lines in
    subst (λ (p : Port). PutsAt g.D.Desk.tells p then now had has old new (Err c.halt_of.result) (lines_from c.args.roster.now c.args.place (records_in c.args.batch.now))) c.requires.own
    (put_fault g.D.Desk.tells old.port then now had has old new (lines_from c.args.roster.now c.args.place (records_in c.args.batch.now)) c.in-Err.fault c.halt_of.result (c.halt_of.ensures ∙ ap (halt_of_fault c.in-Err.fault) (sym c.requires.own))
    c.put_lines.ensures.port c.put_lines.ensures.front (λ e. c.in-Err.ensures.cause (ap Err e)) (λ e. c.in-Err.ensures.spared (ap Err e)) c.put_lines.ensures.moves)
