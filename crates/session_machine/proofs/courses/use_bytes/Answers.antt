-- The messages are those that the piece brings, and each part of the event is a part of the step.
use Rattle.std.proofs.Common.{ℕ, List, ◌++◌, refl, ap, subst, ◌∙◌}
use Rattle.bgp_messages.specs.declared.messages.Message.{Message}
use Rattle.session_machine.specs.declared.cores.Core.{Core}
use Rattle.session_machine.specs.Tables.{TakesAll}
use Rattle.session_machine.specs.Timers.{Keeps, later}
use Rattle.session_machine.specs.Feeds.{Follows, Drains}
use Rattle.session_machine.specs.Events.{core_of, after}
use Rattle.session_machine.proofs.CourseLemmas.{follows_push, judges_by, drained_after, leaves_agree}
use Rattle.session_machine.proofs.courses.use_bytes.Goals as goal

pub returns-clause-step : goal.returns-clause-step
returns-clause-step c = λ m a in_time.
    let feed = c.args.course.now.feed in
    let piece = c.args.piece.now in
    let before = a.feed.before in
    let reading = c.in_ok-reading.reading in
    let follows : Follows c.push.new.self (m.stream ++ piece) before =
    follows_push feed c.push.new.self m.stream piece before a.feed.follows.goes_on c.in_ok-push.ensures.ok (c.in_ok-push.ensures.history m.stream before a.feed.follows.stands) in
    let drains : Drains c.read_all.new.feed (m.stream ++ piece) before reading = c.in_ok-reading.ensures.history (m.stream ++ piece) before follows in
    let all : TakesAll c.args.side.now c.args.course.now.core reading.messages c.take_messages.new.core =
    subst (λ (ms : List Message). TakesAll c.args.side.now c.args.course.now.core ms c.take_messages.new.core) c.as_slice-messages.ensures c.in_ok-take_messages.ensures in
    let takes : TakesAll c.args.side.now (core_of m) reading.messages c.take_messages.new.core =
    subst (λ (k : Core). TakesAll c.args.side.now k reading.messages c.take_messages.new.core) a.core all in
    let keeps : Keeps m.sent c.args.moment c.judge.new.core c.keep_alive.new.core =
    subst (λ (n : ℕ). Keeps n c.args.moment c.judge.new.core c.keep_alive.new.core) a.sent c.in_ok-keep_alive.ensures in
    record {
      end = after m c.args.moment (m.stream ++ piece) reading.messages c.keep_alive.new.core;
      reads = record {
        in_time = in_time;
        news = reading.messages;
        rest = c.read_all.new.feed.rest;
        brought = record { before = before; behind = feed.rest; cut_before = a.feed.cut; cut = drains.cut };
        taken = c.take_messages.new.core;
        takes = takes;
        judged = c.judge.new.core;
        judges = judges_by c.args.side.now.peer c.read_all.new.feed reading.refusal c.take_messages.new.core c.judge.new.core drains.behind c.in_ok-judge.ensures;
        kept = c.keep_alive.new.core;
        keeps = keeps;
        effects_are = c.leave.ensures.effects;
        new_is = refl;
      };
      agrees = leaves_agree (record { core = c.keep_alive.new.core; last = c.args.course.now.last; sent = c.args.course.now.sent; feed = c.read_all.new.feed }) c.leave.new.course m c.args.moment (m.stream ++ piece) reading.messages
          (record { core = c.leave.ensures.core; last = c.leave.ensures.last ∙ ap (λ (ms : List Message). later ms c.args.course.now.last c.args.moment) c.as_slice-messages.ensures; sent = c.leave.ensures.sent; feed = c.leave.ensures.feed }) a.last a.sent
          (drained_after c.args.side.now.peer m.sent c.args.moment c.read_all.new.feed (m.stream ++ piece) before reading c.take_messages.new.core c.judge.new.core c.keep_alive.new.core drains c.in_ok-judge.ensures keeps);
    }
