-- A runner that has not failed stands for some segments, and a round goes on from there.
use Rattle.std.proofs.Common.{◌+◌, List, sym, subst}
use Rattle.control_files.specs.declared.segments.Segment.{Segment}
use Rattle.session_machine.specs.Groups.{Entry}
use Rattle.session_machine.specs.Peers.{AllHold}
use Rattle.control_histories.specs.Logs.{AreOfPeers}
use Rattle.worker_run.specs.declared.runners.Runner.{Runner}
use Rattle.worker_run.specs.Controls.{AreShort, HasRoomFor, bytes_in}
use Rattle.worker_run.specs.Runners.{Rounded, Stands}
use Rattle.worker_run.specs.Steps.{Ran}
use Rattle.worker_run.proofs.RoundLemmas.{rounded}
use Rattle.worker_run.proofs.SoundLemmas.{follows_some, ready, sound_after, stands_some}
use Rattle.worker_run.proofs.runners.Runner.single_round.Goals as goal

pub run_round-requires-clause-ready : goal.run_round-requires-clause-ready
run_round-requires-clause-ready c =
    let r = c.args.self.now in
    let same = sym c.as_slice.ensures in
    ready r c.as_slice.result.now c.requires.sound c.if-self.false (subst (AreOfPeers r.setup.peers) same c.requires.peers) (subst AreShort same c.requires.short) (subst (HasRoomFor r.control) same c.requires.room)

pub run_round-requires-clause-some : goal.run_round-requires-clause-some
run_round-requires-clause-some c = follows_some c.args.self.now c.requires.sound c.if-self.false

abbrev after-Ok : goal.In-Ok → Runner
after-Ok c = record c.args.self.now { control = c.run_round.new.control; table = c.run_round.new.table; work = c.run_round.new.work }

done : (c : goal.In-Ok) (history : List Segment) (log : List Entry) → Stands c.args.self.now history log → Rounded (after-Ok c) history log c.args.segments.now c.args.batch.now c.run_round.new.batch c.in-Ok.replies
done c history log st =
    let old = c.args.self.now in
    let ran : Ran old.setup c.run_round.new.control c.run_round.new.table history log c.args.segments.now c.args.batch.now c.run_round.new.batch c.in-Ok.replies =
    subst (λ (ss : List Segment). Ran old.setup c.run_round.new.control c.run_round.new.table history log ss c.args.batch.now c.run_round.new.batch c.in-Ok.replies) c.as_slice.ensures (c.in-Ok.ensures.history history log st.publishes) in
    rounded (after-Ok c) history log c.args.segments.now c.args.batch.now c.run_round.new.batch c.in-Ok.replies old.control old.table c.if-self.false st.publishes ran

pub returns-in-Ok-clause-history : goal.returns-in-Ok-clause-history
returns-in-Ok-clause-history c = done c

pub returns-in-Ok-clause-sound : goal.returns-in-Ok-clause-sound
returns-in-Ok-clause-sound c =
    let x = stands_some c.args.self.now c.requires.sound c.if-self.false in
    sound_after (after-Ok c) x.0 x.1 c.args.segments.now c.args.batch.now c.run_round.new.batch c.in-Ok.replies (done c x.0 x.1 x.2)

pub returns-in-Ok-clause-count : goal.returns-in-Ok-clause-count
returns-in-Ok-clause-count c = λ most hold.
    subst (λ (ss : List Segment). AllHold (most + bytes_in ss) c.run_round.new.control.sessions.sessions.items) c.as_slice.ensures (c.in-Ok.ensures.count most hold)
