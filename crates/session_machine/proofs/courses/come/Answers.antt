-- Bytes of a session that is there.
use Rattle.session_machine.proofs.CourseLemmas.{over_ok, uses_opening, uses_confirmed, uses_established, state_of}
use Rattle.session_machine.specs.Events.{comes}
use Rattle.session_machine.specs.Courses.{Goes, GoesUsing}
use Rattle.session_machine.specs.declared.states.State.TheVariants as states
use Rattle.session_machine.specs.declared.events.Effects.{Effects}
use Rattle.session_machine.proofs.courses.come.Goals as goal

pub returns-in-OpenSent-clause-step : goal.returns-in-OpenSent-clause-step
returns-in-OpenSent-clause-step c = λ m a.
    let is = state_of c.args.course.now m states.OpenSent a c.in-OpenSent.is in
    over_ok (λ (e : Effects). GoesUsing c.args.side.now m c.args.moment c.args.piece.now e c.take_bytes.new.course) (λ (e : Effects). Goes c.args.side.now m (comes c.args.moment c.args.piece.now) e c.take_bytes.new.course) c.take_bytes.result
    (λ e g. uses_opening c.args.side.now m c.args.moment c.args.piece.now e c.take_bytes.new.course is g) (c.take_bytes.ensures.step m a)

pub returns-in-OpenConfirm-clause-step : goal.returns-in-OpenConfirm-clause-step
returns-in-OpenConfirm-clause-step c = λ m a.
    let hold = c.in-OpenConfirm.field-0 in
    let is = state_of c.args.course.now m (states.OpenConfirm hold) a c.in-OpenConfirm.is in
    let call = c.take_bytes-in-OpenConfirm in
    over_ok (λ (e : Effects). GoesUsing c.args.side.now m c.args.moment c.args.piece.now e call.new.course) (λ (e : Effects). Goes c.args.side.now m (comes c.args.moment c.args.piece.now) e call.new.course) call.result
    (λ e g. uses_confirmed hold c.args.side.now m c.args.moment c.args.piece.now e call.new.course is g) (call.ensures.step m a)

pub returns-in-Established-clause-step : goal.returns-in-Established-clause-step
returns-in-Established-clause-step c = λ m a.
    let hold = c.in-Established.field-0 in
    let is = state_of c.args.course.now m (states.Established hold) a c.in-Established.is in
    let call = c.take_bytes-in-Established in
    over_ok (λ (e : Effects). GoesUsing c.args.side.now m c.args.moment c.args.piece.now e call.new.course) (λ (e : Effects). Goes c.args.side.now m (comes c.args.moment c.args.piece.now) e call.new.course) call.result
    (λ e g. uses_established hold c.args.side.now m c.args.moment c.args.piece.now e call.new.course is g) (call.ensures.step m a)
