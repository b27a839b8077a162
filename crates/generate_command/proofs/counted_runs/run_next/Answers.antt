-- What is left may be run, and the round leads on.
use Rattle.std.proofs.Common.{subst, sym}
use Rattle.session_machine.specs.Peers.{AllHold}
use Rattle.worker_run.specs.declared.runners.Runner.{Runner}
use Rattle.worker_run.specs.Controls.{bytes_in}
use Rattle.worker_run.specs.Runners.{Stands}
use Rattle.generate_command.proofs.RunLemmas.{along_next, round_counted, round_limits, round_peers, round_room}
use Rattle.generate_command.proofs.counted_runs.run_next.Goals as goal

pub run_taken-requires-clause-limits : goal.run_taken-requires-clause-limits
run_taken-requires-clause-limits c =
    let along = c.requires.along in
    round_limits along.0 along.1 c.args.run.now c.args.frames.now c.args.segments.now c.take_round.new.run.batch c.args.round.frames along.2 c.in_ok-take_round.ensures.frames

pub run_taken-requires-clause-peers : goal.run_taken-requires-clause-peers
run_taken-requires-clause-peers c =
    let along = c.requires.along in
    round_peers along.0 along.1 c.args.run.now c.take_round.new.run c.args.frames.now c.args.segments.now c.args.round.segments along.2 c.take_round.ensures.runner c.in_ok-take_round.ensures.segments

pub run_taken-requires-clause-room : goal.run_taken-requires-clause-room
run_taken-requires-clause-room c =
    let along = c.requires.along in
    round_room along.0 along.1 c.args.run.now c.take_round.new.run c.args.frames.now c.args.segments.now c.args.round.segments along.2 c.take_round.ensures.runner c.in_ok-take_round.ensures.segments

pub run_taken-requires-clause-counted : goal.run_taken-requires-clause-counted
run_taken-requires-clause-counted c =
    let along = c.requires.along in
    round_counted along.0 along.1 c.args.run.now c.take_round.new.run c.args.frames.now c.args.segments.now c.args.round.frames along.2 c.take_round.ensures.summary c.in_ok-take_round.ensures.frames c.requires.next.few_frames

pub returns : goal.returns
returns c = λ setup whole along.
    let mid = c.take_round.new.run in
    let stands = subst (λ (r : Runner). Stands r along.history along.log) (sym c.take_round.ensures.runner) along.stands in
    let hold = subst (λ (r : Runner). AllHold (bytes_in along.history) r.control.sessions.sessions.items) (sym c.take_round.ensures.runner) along.hold in
    along_next setup whole c.args.run.now mid c.run_taken.new.run c.args.frames.now c.args.segments.now c.args.round c.run_taken.result along c.requires.next c.in_ok-take_round.ensures.frames c.in_ok-take_round.ensures.segments
    c.take_round.ensures.runner c.take_round.ensures.summary c.run_taken.ensures.setup (c.run_taken.ensures.round along.history along.log stands) (c.run_taken.ensures.hold (bytes_in along.history) hold)
