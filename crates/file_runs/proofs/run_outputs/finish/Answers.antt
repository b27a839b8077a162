-- What waits was written, or a front of it.
use Rattle.std.proofs.Common.{[], Ok, Err, subst}
use Rattle.sfc_desk.specs.declared.ports.Port.{Port}
use Rattle.round_inputs.specs.declared.halts.Halt.TheVariants as halts
use Rattle.file_runs.specs.RunPuts.{PutsAt}
use Rattle.file_runs.proofs.PutLemmas.{put_finished, put_unfinished}
use Rattle.file_runs.proofs.run_outputs.finish.Goals as goal

pub returns-in-Ok-clause-puts : goal.returns-in-Ok-clause-puts
returns-in-Ok-clause-puts g c =
    let then = g.D.Desk.at c.args.desk.now in
    let now = g.D.Desk.at c.finish.new.desk in
    let had = g.D.Desk.held c.args.desk.now in
    let has = g.D.Desk.held c.finish.new.desk in
    let old = c.args.output.now in
    let new = c.finish.new.self in
    subst (λ (p : Port). PutsAt g.D.Desk.tells p then now had has old new (Ok tt) []) c.requires.own
    (put_finished g.D.Desk.tells old.port then now had has old new c.finish.ensures.port c.finish.ensures.nothing c.in-Ok.ensures.ok c.finish.ensures.front c.in-Ok.ensures.quiet c.finish.ensures.moves)

pub returns-in-Err-clause-puts : goal.returns-in-Err-clause-puts
returns-in-Err-clause-puts g c =
    let then = g.D.Desk.at c.args.desk.now in
    let now = g.D.Desk.at c.finish.new.desk in
    let had = g.D.Desk.held c.args.desk.now in
    let has = g.D.Desk.held c.finish.new.desk in
    let old = c.args.output.now in
    let new = c.finish.new.self in
    subst (λ (p : Port). PutsAt g.D.Desk.tells p then now had has old new (Err (halts.File p)) []) c.requires.own
    (put_unfinished g.D.Desk.tells old.port then now had has old new c.finish.ensures.port c.finish.ensures.front c.in-Err.ensures.cause c.finish.ensures.moves)
