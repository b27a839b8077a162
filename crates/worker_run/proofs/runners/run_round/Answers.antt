-- The control side took the segments, the table is that of the changes then, and every frame was forwarded over it.
use Rattle.std.proofs.Common.{ℕ, List, [], ap, subst}
use Rattle.sfc_config.specs.Parts.{Parts}
use Rattle.sfc_routes.specs.Entries.{Entries}
use Rattle.worker_run.specs.Controls.{Took}
use Rattle.worker_run.proofs.RoundLemmas.{Refreshed, ran}
use Rattle.worker_run.proofs.runners.run_round.Goals as goal

pub returns-clause-history : goal.returns-clause-history
returns-clause-history c = λ history log x.
    let setup = c.args.setup.now in
    let old = c.args.control.now in
    let control = c.take.new.self in
    let segments = c.args.segments.now in
    let replies = c.take.new.replies in
    let took : Took control history log segments [] replies =
    subst (λ (before : List ℕ). Took control history log segments before replies) c.new-replies.ensures (c.in_ok-take.ensures.history history log x.follows) in
    let fresh : Refreshed setup.roster control old.version c.args.table.now c.refresh.new.table =
    subst (λ (roster : Entries). Refreshed roster control old.version c.args.table.now c.refresh.new.table) (ap (λ (p : Parts). p.roster) c.setup.view_is) c.in_ok-refresh.ensures in
    ran setup old control c.args.table.now c.refresh.new.table history log segments c.args.batch.now c.forward_all.new.batch replies c.take.ensures.sides x took fresh c.in_ok-forward_all.ensures.each
