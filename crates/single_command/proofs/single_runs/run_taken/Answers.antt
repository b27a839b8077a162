-- What is known of a round that was taken is what is asked of one that is run, and behind it the run goes on or halts.
use Rattle.file_runs.proofs.TakenLemmas.{along_round, halts_round, sound_by, taken_limits, taken_peers, taken_room, taken_short}
use Rattle.worker_run.specs.Runs.{single_says}
use Rattle.file_runs.specs.RunPuts.{run_means, waits_of}
use Rattle.file_runs.proofs.RoundLemmas.{all_open}
use Rattle.single_command.proofs.SingleLemmas.{said_of_setup}
use Rattle.single_command.proofs.single_runs.run_taken.Goals as goal

pub run_round-requires : goal.run_round-requires
run_round-requires g c =
    let run = c.args.run.now in
    let setup = c.requires.some.0 in
    let then = c.requires.some.1 in
    let taken = c.requires.some.2 in
    let now = g.D.Desk.at c.args.desk.now in
    let waits = waits_of c.args.outputs.now in
    record {
      sound = sound_by run.runner taken.history taken.log taken.is_said.stands;
      some = (taken.history, taken.log, taken.is_said.stands);
      limits = taken_limits (run_means (single_says setup) setup) setup g.D.Desk.tells then now waits run c.args.place taken;
      peers = taken_peers (run_means (single_says setup) setup) setup g.D.Desk.tells then now waits run c.args.place taken;
      short = taken_short (run_means (single_says setup) setup) setup g.D.Desk.tells then now waits run c.args.place taken;
      room = taken_room (run_means (single_says setup) setup) setup g.D.Desk.tells then now waits run c.args.place taken;
      ready = c.requires.ready;
    }

pub returns-clause-along : goal.returns-clause-along
returns-clause-along g c = λ setup then taken.
    along_round (run_means (single_says setup) setup) setup g.D.Desk.tells (g.D.Desk.held c.args.desk.now) (g.D.Desk.held c.run_round.new.desk) then (g.D.Desk.at c.args.desk.now) (g.D.Desk.at c.run_round.new.desk)
    (waits_of c.args.outputs.now) (waits_of c.run_round.new.outputs) c.args.run.now c.args.place c.run_round.new.runner c.run_round.new.frames c.run_round.result taken c.run_round.ensures.setup
    (record { counts = c.run_round.ensures.counts; never_long = c.run_round.ensures.never_long; writes = c.run_round.ensures.writes })
    (all_open (single_says setup) setup (g.D.Desk.at c.run_round.new.desk) c.run_round.new.outputs c.run_round.result c.run_round.ensures.ready) (c.run_round.ensures.hold _ taken.is_said.hold)
    (said_of_setup setup g.D.Desk.tells (g.D.Desk.at c.args.desk.now) (g.D.Desk.at c.run_round.new.desk) c.args.outputs.now c.run_round.new.outputs c.args.run.now c.args.place c.run_round.new.runner c.run_round.new.frames
    c.run_round.result then taken c.run_round.ensures.setup (c.run_round.ensures.round taken.history taken.log taken.is_said.stands))

pub returns-clause-halts : goal.returns-clause-halts
returns-clause-halts g c = λ setup then taken.
    halts_round (run_means (single_says setup) setup) setup g.D.Desk.tells (g.D.Desk.held c.args.desk.now) (g.D.Desk.held c.run_round.new.desk) then (g.D.Desk.at c.args.desk.now) (g.D.Desk.at c.run_round.new.desk)
    (waits_of c.args.outputs.now) (waits_of c.run_round.new.outputs) c.args.run.now c.args.place c.run_round.new.runner c.run_round.result taken c.run_round.ensures.setup
    (record { counts = c.run_round.ensures.counts; never_long = c.run_round.ensures.never_long; writes = c.run_round.ensures.writes })
    (said_of_setup setup g.D.Desk.tells (g.D.Desk.at c.args.desk.now) (g.D.Desk.at c.run_round.new.desk) c.args.outputs.now c.run_round.new.outputs c.args.run.now c.args.place c.run_round.new.runner c.run_round.new.frames
    c.run_round.result then taken c.run_round.ensures.setup (c.run_round.ensures.round taken.history taken.log taken.is_said.stands))
