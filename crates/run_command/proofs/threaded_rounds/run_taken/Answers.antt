-- What is known of a round that was taken is what is asked of one that is run, and behind it the run goes on or halts.
use Rattle.worker_run.specs.Runs.{run_says}
use Rattle.file_runs.proofs.TakenLemmas.{along_round, halts_round, sound_by, taken_limits, taken_peers, taken_room, taken_short}
use Rattle.file_runs.specs.RunPuts.{run_means, waits_of}
use Rattle.file_runs.proofs.RoundLemmas.{all_open}
use Rattle.run_command.proofs.ThreadedLemmas.{along_with, said_of_workers, workers_within}
use Rattle.run_command.proofs.threaded_rounds.run_taken.Goals as goal

pub run_round-requires-clause-sound : goal.run_round-requires-clause-sound
run_round-requires-clause-sound g c κs within =
    let run = c.args.run.now in
    let taken = c.requires.3.taken in
    sound_by run.runner taken.history taken.log taken.is_said.stands

pub run_round-requires-clause-workers : goal.run_round-requires-clause-workers
run_round-requires-clause-workers g c κs within =
    let run = c.args.run.now in
    let workers = c.requires.1 in
    workers_within run.runner workers c.requires.3.has

pub run_round-requires-clause-some : goal.run_round-requires-clause-some
run_round-requires-clause-some g c κs within =
    let taken = c.requires.3.taken in
    (taken.history, taken.log, taken.is_said.stands)

pub run_round-requires-clause-limits : goal.run_round-requires-clause-limits
run_round-requires-clause-limits g c κs within =
    let run = c.args.run.now in
    let setup = c.requires.0 in
    let workers = c.requires.1 in
    let then = c.requires.2 in
    let taken = c.requires.3.taken in
    taken_limits (run_means (run_says setup workers) setup) setup g.D.Desk.tells then (g.D.Desk.at c.args.desk.now) (waits_of c.args.outputs.now) run c.args.place taken

pub run_round-requires-clause-peers : goal.run_round-requires-clause-peers
run_round-requires-clause-peers g c κs within =
    let run = c.args.run.now in
    let setup = c.requires.0 in
    let workers = c.requires.1 in
    let then = c.requires.2 in
    let taken = c.requires.3.taken in
    taken_peers (run_means (run_says setup workers) setup) setup g.D.Desk.tells then (g.D.Desk.at c.args.desk.now) (waits_of c.args.outputs.now) run c.args.place taken

pub run_round-requires-clause-short : goal.run_round-requires-clause-short
run_round-requires-clause-short g c κs within =
    let run = c.args.run.now in
    let setup = c.requires.0 in
    let workers = c.requires.1 in
    let then = c.requires.2 in
    let taken = c.requires.3.taken in
    taken_short (run_means (run_says setup workers) setup) setup g.D.Desk.tells then (g.D.Desk.at c.args.desk.now) (waits_of c.args.outputs.now) run c.args.place taken

pub run_round-requires-clause-room : goal.run_round-requires-clause-room
run_round-requires-clause-room g c κs within =
    let run = c.args.run.now in
    let setup = c.requires.0 in
    let workers = c.requires.1 in
    let then = c.requires.2 in
    let taken = c.requires.3.taken in
    taken_room (run_means (run_says setup workers) setup) setup g.D.Desk.tells then (g.D.Desk.at c.args.desk.now) (waits_of c.args.outputs.now) run c.args.place taken

pub run_round-requires-clause-ready : goal.run_round-requires-clause-ready
run_round-requires-clause-ready g c κs within =
    let taken = c.requires.3.taken in
    c.requires.3.ready

pub returns-clause-along : goal.returns-clause-along
returns-clause-along g c = λ setup workers then on.
    along_with workers setup g.D.Desk.tells then (g.D.Desk.at c.run_round.new.desk) c.run_round.new.outputs c.args.run.now c.run_round.new.runner c.run_round.new.frames c.run_round.result c.run_round.ensures.workers on.has c.run_round.ensures.ready
    (along_round (run_means (run_says setup workers) setup) setup g.D.Desk.tells (g.D.Desk.held c.args.desk.now) (g.D.Desk.held c.run_round.new.desk) then (g.D.Desk.at c.args.desk.now) (g.D.Desk.at c.run_round.new.desk)
    (waits_of c.args.outputs.now) (waits_of c.run_round.new.outputs) c.args.run.now c.args.place c.run_round.new.runner c.run_round.new.frames c.run_round.result on.taken c.run_round.ensures.setup
    (record { counts = c.run_round.ensures.counts; never_long = c.run_round.ensures.never_long; writes = c.run_round.ensures.writes })
    (all_open (run_says setup workers) setup (g.D.Desk.at c.run_round.new.desk) c.run_round.new.outputs c.run_round.result c.run_round.ensures.ready) (c.run_round.ensures.hold _ on.taken.is_said.hold)
    (said_of_workers workers setup g.D.Desk.tells then (g.D.Desk.at c.args.desk.now) (g.D.Desk.at c.run_round.new.desk) c.args.outputs.now c.run_round.new.outputs c.args.run.now c.args.place c.run_round.new.runner c.run_round.new.frames
    c.run_round.result on c.run_round.ensures.setup c.run_round.ensures.workers (c.run_round.ensures.round on.taken.history on.taken.log on.taken.is_said.stands)))

pub returns-clause-halts : goal.returns-clause-halts
returns-clause-halts g c = λ setup workers then on.
    halts_round (run_means (run_says setup workers) setup) setup g.D.Desk.tells (g.D.Desk.held c.args.desk.now) (g.D.Desk.held c.run_round.new.desk) then (g.D.Desk.at c.args.desk.now) (g.D.Desk.at c.run_round.new.desk)
    (waits_of c.args.outputs.now) (waits_of c.run_round.new.outputs) c.args.run.now c.args.place c.run_round.new.runner c.run_round.result on.taken c.run_round.ensures.setup
    (record { counts = c.run_round.ensures.counts; never_long = c.run_round.ensures.never_long; writes = c.run_round.ensures.writes })
    (said_of_workers workers setup g.D.Desk.tells then (g.D.Desk.at c.args.desk.now) (g.D.Desk.at c.run_round.new.desk) c.args.outputs.now c.run_round.new.outputs c.args.run.now c.args.place c.run_round.new.runner c.run_round.new.frames
    c.run_round.result on c.run_round.ensures.setup c.run_round.ensures.workers (c.run_round.ensures.round on.taken.history on.taken.log on.taken.is_said.stands))
