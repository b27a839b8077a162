-- The status tells the outcome of the stream.
use Rattle.std.proofs.Common.{◌≢◌, sym, subst}
use Rattle.commands.specs.declared.statuses.Status.{Status}
use Rattle.commands.specs.declared.statuses.Status.TheVariants as status
use Rattle.walk_command.specs.WalkSteps.{WalkWorks, walk_of}
use Rattle.walk_command.proofs.WalkRunLemmas.{works_of, counts_of}
use Rattle.walk_command.proofs.walk_calls.walk_bound.Goals as goal

pub returns-clause-works : goal.returns-clause-works
returns-clause-works g c =
    let then = g.D.Desk.at c.args.desk.now in
    let now = g.D.Desk.at c.walk_stream.new.desk in
    subst (λ (s : Status). WalkWorks (walk_of c.args.said.now) g.D.Desk.tells then now s) (sym c.status_of.ensures)
    (works_of c.args.said.now g.D.Desk.tells then now c.walk_stream.result c.walk_stream.ensures.ends c.walk_stream.ensures.read c.walk_stream.ensures.write)

pub returns-clause-counts : goal.returns-clause-counts
returns-clause-counts g c = λ port differs.
    counts_of (g.D.Desk.at c.args.desk.now) (g.D.Desk.at c.walk_stream.new.desk) c.walk_stream.result c.walk_stream.ensures.read_spared c.walk_stream.ensures.write_spared c.walk_stream.ensures.others port
    (subst (λ (s : Status). s ≢ status.File port) c.status_of.ensures differs)
