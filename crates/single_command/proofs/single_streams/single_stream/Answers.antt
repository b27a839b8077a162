-- The run can't begin, its header can't be put, or it goes its way.
use Rattle.std.proofs.Common.{Ok, Err, sym, subst}
use Rattle.commands.specs.declared.statuses.Status.{Status}
use Rattle.worker_run.specs.Runs.{single_says}
use Rattle.file_runs.specs.RunPuts.{run_means, waits_of}
use Rattle.file_runs.specs.RunSteps.{StreamSays}
use Rattle.file_runs.proofs.RoundLemmas.{bound_three, fresh_open, fresh_put, head_put, three_bound}
use Rattle.file_runs.proofs.StreamLemmas.{begin_along, begin_head_halts}
use Rattle.single_command.proofs.single_streams.single_stream.Goals as goal

pub begin_run-requires-clause-bound : goal.begin_run-requires-clause-bound
begin_run-requires-clause-bound g c = three_bound (single_says c.args.setup) c.args.setup g.D.Desk.tells (g.D.Desk.at c.args.desk.now) c.requires.bound

pub put_header-requires : goal.put_header-requires
put_header-requires g c = record {
  ready = fresh_open g.D.Desk.tells (g.D.Desk.at c.begin_run.new.desk) c.in-Ok-new.outputs (bound_three (single_says c.args.setup) c.args.setup g.D.Desk.tells (g.D.Desk.at c.begin_run.new.desk) c.in-Ok.ensures.still)
      (record { egress = c.in-Ok-new.ensures.egress; lines = c.in-Ok-new.ensures.lines; replies = c.in-Ok-new.ensures.replies });
}

pub run_all-requires-clause-some : goal.run_all-requires-clause-some
run_all-requires-clause-some g c = (
  c.args.setup,
  g.D.Desk.at c.args.desk.now,
  begin_along (run_means (single_says c.args.setup) c.args.setup) c.args.setup g.D.Desk.tells (g.D.Desk.held c.args.desk.now) (g.D.Desk.held c.begin_run.new.desk) (g.D.Desk.held c.put_header.new.desk) (g.D.Desk.at c.args.desk.now) (g.D.Desk.at c.begin_run.new.desk)
      (g.D.Desk.at c.put_header.new.desk) (waits_of c.put_header.new.self) c.in-Ok.run' c.in-Ok.ensures.begun
      (head_put (single_says c.args.setup) c.args.setup g.D.Desk.tells (g.D.Desk.at c.begin_run.new.desk) (g.D.Desk.at c.put_header.new.desk) (g.D.Desk.held c.begin_run.new.desk) (g.D.Desk.held c.put_header.new.desk) c.in-Ok-new.outputs c.put_header.new.self c.in-Ok.run'.form (Ok tt)
      (fresh_put g.D.Desk.tells (g.D.Desk.at c.begin_run.new.desk) c.in-Ok-new.outputs (bound_three (single_says c.args.setup) c.args.setup g.D.Desk.tells (g.D.Desk.at c.begin_run.new.desk) c.in-Ok.ensures.still)
      (record { egress = c.in-Ok-new.ensures.egress; lines = c.in-Ok-new.ensures.lines; replies = c.in-Ok-new.ensures.replies }))
      c.in_default-put_header.ensures),
)

pub returns-in-Err-put_header : goal.returns-in-Err-put_header
returns-in-Err-put_header g c =
    subst (λ (s : Status). StreamSays (run_means (single_says c.args.setup) c.args.setup) c.args.setup g.D.Desk.tells (g.D.Desk.at c.args.desk.now) (g.D.Desk.at c.put_header.new.desk) s) (sym c.status_of_halt-in-Err-put_header.ensures)
    (begin_head_halts (run_means (single_says c.args.setup) c.args.setup) c.args.setup g.D.Desk.tells (g.D.Desk.held c.args.desk.now) (g.D.Desk.held c.begin_run.new.desk) (g.D.Desk.held c.put_header.new.desk) (g.D.Desk.at c.args.desk.now) (g.D.Desk.at c.begin_run.new.desk)
    (g.D.Desk.at c.put_header.new.desk) (waits_of c.put_header.new.self) c.in-Ok.run' c.in-Err-put_header.halt c.in-Ok.ensures.begun
    (head_put (single_says c.args.setup) c.args.setup g.D.Desk.tells (g.D.Desk.at c.begin_run.new.desk) (g.D.Desk.at c.put_header.new.desk) (g.D.Desk.held c.begin_run.new.desk) (g.D.Desk.held c.put_header.new.desk) c.in-Ok-new.outputs c.put_header.new.self c.in-Ok.run'.form (Err c.in-Err-put_header.halt)
    (fresh_put g.D.Desk.tells (g.D.Desk.at c.begin_run.new.desk) c.in-Ok-new.outputs (bound_three (single_says c.args.setup) c.args.setup g.D.Desk.tells (g.D.Desk.at c.begin_run.new.desk) c.in-Ok.ensures.still)
    (record { egress = c.in-Ok-new.ensures.egress; lines = c.in-Ok-new.ensures.lines; replies = c.in-Ok-new.ensures.replies }))
    c.in-Err-put_header.ensures))

pub returns : goal.returns
returns g c = c.run_all.ensures c.args.setup (g.D.Desk.at c.args.desk.now)
    (begin_along (run_means (single_says c.args.setup) c.args.setup) c.args.setup g.D.Desk.tells (g.D.Desk.held c.args.desk.now) (g.D.Desk.held c.begin_run.new.desk) (g.D.Desk.held c.put_header.new.desk) (g.D.Desk.at c.args.desk.now) (g.D.Desk.at c.begin_run.new.desk)
    (g.D.Desk.at c.put_header.new.desk) (waits_of c.put_header.new.self) c.in-Ok.run' c.in-Ok.ensures.begun
    (head_put (single_says c.args.setup) c.args.setup g.D.Desk.tells (g.D.Desk.at c.begin_run.new.desk) (g.D.Desk.at c.put_header.new.desk) (g.D.Desk.held c.begin_run.new.desk) (g.D.Desk.held c.put_header.new.desk) c.in-Ok-new.outputs c.put_header.new.self c.in-Ok.run'.form (Ok tt)
    (fresh_put g.D.Desk.tells (g.D.Desk.at c.begin_run.new.desk) c.in-Ok-new.outputs (bound_three (single_says c.args.setup) c.args.setup g.D.Desk.tells (g.D.Desk.at c.begin_run.new.desk) c.in-Ok.ensures.still)
    (record { egress = c.in-Ok-new.ensures.egress; lines = c.in-Ok-new.ensures.lines; replies = c.in-Ok-new.ensures.replies }))
    c.in_default-put_header.ensures))
