-- The bytes were put, or a front of them.
use Rattle.std.proofs.Common.{Ok, Err, ap, sym, subst, ◌∙◌}
use Rattle.sfc_desk.specs.declared.ports.Port.{Port}
use Rattle.file_runs.specs.Means.{halt_of_fault}
use Rattle.file_runs.specs.RunPuts.{PutsAt}
use Rattle.file_runs.proofs.PutLemmas.{put_fault, put_ok}
use Rattle.file_runs.proofs.run_outputs.put_bytes.Goals as goal

pub returns-in-Ok : goal.returns-in-Ok
returns-in-Ok g c =
    let then = g.D.Desk.at c.args.desk.now in
    let now = g.D.Desk.at c.put.new.desk in
    let had = g.D.Desk.held c.args.desk.now in
    let has = g.D.Desk.held c.put.new.desk in
    let old = c.args.output.now in
    let new = c.put.new.self in
    subst (λ (p : Port). PutsAt g.D.Desk.tells p then now had has old new (Ok tt) c.args.bytes.now) c.requires.own
    (put_ok g.D.Desk.tells old.port then now had has old new c.args.bytes.now c.put.ensures.port c.in-Ok.ensures.ok c.put.ensures.front c.in-Ok.ensures.quiet c.put.ensures.moves)

pub returns-in-Err : goal.returns-in-Err
returns-in-Err g c =
    let then = g.D.Desk.at c.args.desk.now in
    let now = g.D.Desk.at c.put.new.desk in
    let had = g.D.Desk.held c.args.desk.now in
    let has = g.D.Desk.held c.put.new.desk in
    let old = c.args.output.now in
    let new = c.put.new.self in
    subst (λ (p : Port). PutsAt g.D.Desk.tells p then now had has old new (Err c.halt_of.result) c.args.bytes.now) c.requires.own
    (put_fault g.D.Desk.tells old.port then now had has old new c.args.bytes.now c.in-Err.fault c.halt_of.result (c.halt_of.ensures ∙ ap (halt_of_fault c.in-Err.fault) (sym c.requires.own))
    c.put.ensures.port c.put.ensures.front (λ e. c.in-Err.ensures.cause (ap Err e)) (λ e. c.in-Err.ensures.spared (ap Err e)) c.put.ensures.moves)
