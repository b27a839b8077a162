-- A runner that has not failed stands for some segments, and a round goes on from there.
use Rattle.std.proofs.Common.{◌+◌, List, sym, subst}
use Rattle.control_files.specs.declared.segments.Segment.{Segment}
use Rattle.session_machine.specs.Groups.{Entry}
use Rattle.session_machine.specs.Peers.{AllHold}
use Rattle.control_histories.specs.Logs.{AreOfPeers}
use Rattle.worker_run.specs.declared.runners.Runner.{Runner}
use Rattle.worker_run.specs.Controls.{AreShort, HasRoomFor, bytes_in}
use Rattle.worker_run.specs.Runners.{RoundedOnThreads, Stands}
use Rattle.worker_run.specs.Steps.{RanOnThreads}
use Rattle.worker_run.proofs.ThreadLemmas.{rounded_on_threads, sound_on_threads}
use Rattle.worker_run.proofs.SoundLemmas.{ready, stands_some}
use Rattle.worker_run.proofs.runners.Runner.round.Goals as goal
use Rattle.worker_run.proofs.runners.Runner.round.Given.{Over}

pub run_threads-requires-clause-ready : goal.run_threads-requires-clause-ready
run_threads-requires-clause-ready g c κs within =
    let r = c.args.self.now in
    let same = sym c.as_slice.ensures in
    ready r c.as_slice.result.now c.requires.sound c.if-self.false (subst (AreOfPeers r.setup.peers) same c.requires.peers) (subst AreShort same c.requires.short) (subst (HasRoomFor r.control) same c.requires.room)

pub run_threads-requires-clause-some : goal.run_threads-requires-clause-some
run_threads-requires-clause-some g c κs within = let x = stands_some c.args.self.now c.requires.sound c.if-self.false in (x.0, x.1, x.2.publishes)

abbrev after-Ok : (g : Over) → goal.In-Ok g → Runner
after-Ok g c = record c.args.self.now { control = c.run_threads.new.control; table = c.run_threads.new.table }

done : (g : Over) (c : goal.In-Ok g) (history : List Segment) (log : List Entry) → Stands c.args.self.now history log → RoundedOnThreads (after-Ok g c) history log c.args.segments.now c.args.batch.now c.run_threads.new.batch c.in-Ok.replies
done g c history log st =
    let old = c.args.self.now in
    let ran : RanOnThreads old.setup old.workers c.run_threads.new.control c.run_threads.new.table history log c.args.segments.now c.args.batch.now c.run_threads.new.batch c.in-Ok.replies =
    subst (λ (ss : List Segment). RanOnThreads old.setup old.workers c.run_threads.new.control c.run_threads.new.table history log ss c.args.batch.now c.run_threads.new.batch c.in-Ok.replies) c.as_slice.ensures (c.in-Ok.ensures.history history log st.publishes) in
    rounded_on_threads (after-Ok g c) history log c.args.segments.now c.args.batch.now c.run_threads.new.batch c.in-Ok.replies old.control old.table c.if-self.false st.publishes ran

pub returns-in-Ok-clause-history : goal.returns-in-Ok-clause-history
returns-in-Ok-clause-history g c = done g c

pub returns-in-Ok-clause-sound : goal.returns-in-Ok-clause-sound
returns-in-Ok-clause-sound g c =
    let x = stands_some c.args.self.now c.requires.sound c.if-self.false in
    sound_on_threads (after-Ok g c) x.0 x.1 c.args.segments.now c.args.batch.now c.run_threads.new.batch c.in-Ok.replies (done g c x.0 x.1 x.2)

pub returns-in-Ok-clause-count : goal.returns-in-Ok-clause-count
returns-in-Ok-clause-count g c = λ most hold.
    subst (λ (ss : List Segment). AllHold (most + bytes_in ss) c.run_threads.new.control.sessions.sessions.items) c.as_slice.ensures (c.in-Ok.ensures.count most hold)
