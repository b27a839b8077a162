-- What take_round comes to: a round, an end, or a halt.
use Rattle.std.proofs.Common.{ap}
use Rattle.worker_run.specs.Batches.{frames_in}
use Rattle.round_inputs.specs.Taking.{round_of}
use Rattle.file_runs.specs.RunSteps.{capture_of, control_of}
use Rattle.file_runs.proofs.AlongLemmas.{takes_end, takes_halt, takes_one}
use Rattle.file_runs.proofs.run_steps.take_next.Goals as goal

pub take_round-requires : goal.take_round-requires
take_round-requires g c =
    let then = c.requires.2 in
    let along = c.requires.4 in
    record {
      group = c.clear-2.ensures;
      buffer = ap frames_in c.clear.ensures;
      capture = along.standing.capture_bound;
      control = along.standing.control_bound;
      few = along.few;
      held = (capture_of then, control_of then, along.passed, along.history, along.holds);
      lends = along.lends;
    }

pub returns-clause-taken : goal.returns-clause-taken
returns-clause-taken g c = λ setup workers then waits along.
    takes_one (g.W.RunWord.means setup workers) setup g.D.Desk.tells (g.D.Desk.held c.args.desk.now) (g.D.Desk.held c.take_round.new.desk) then (g.D.Desk.at c.args.desk.now) (g.D.Desk.at c.take_round.new.desk) waits c.args.run.now c.take_round.new.inputs
    c.take_round.new.buffer c.take_round.new.group c.take_round.result along c.take_round.ensures.reads c.take_round.ensures.counts c.take_round.ensures.peers
    (c.take_round.ensures.takes (capture_of then) (control_of then) along.passed along.history along.holds) c.take_round.ensures.few c.take_round.ensures.lends

pub returns-clause-over : goal.returns-clause-over
returns-clause-over g c = λ setup workers then waits along.
    takes_end (g.W.RunWord.means setup workers) setup g.D.Desk.tells (g.D.Desk.held c.args.desk.now) (g.D.Desk.held c.take_round.new.desk) then (g.D.Desk.at c.args.desk.now) (g.D.Desk.at c.take_round.new.desk) waits c.args.run.now c.take_round.new.inputs
    c.take_round.new.buffer c.take_round.new.group c.take_round.result along c.take_round.ensures.reads c.take_round.ensures.counts c.take_round.ensures.peers
    (c.take_round.ensures.takes (capture_of then) (control_of then) along.passed along.history along.holds)

pub returns-clause-halts : goal.returns-clause-halts
returns-clause-halts g c = λ setup workers then waits along.
    takes_halt (g.W.RunWord.means setup workers) setup g.D.Desk.tells (g.D.Desk.held c.args.desk.now) (g.D.Desk.held c.take_round.new.desk) then (g.D.Desk.at c.args.desk.now) (g.D.Desk.at c.take_round.new.desk) waits c.args.run.now c.take_round.new.inputs
    c.take_round.result (round_of c.take_round.new.group (frames_in c.take_round.new.buffer.batch)) along c.take_round.ensures.reads c.take_round.ensures.counts
    (c.take_round.ensures.takes (capture_of then) (control_of then) along.passed along.history along.holds)
