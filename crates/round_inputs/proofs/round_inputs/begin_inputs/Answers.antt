-- Both feeds begin with nothing, and only the file that was read may be too long.
use Rattle.std.proofs.Common.{[], refl, ap}
use Rattle.sfc_desk.specs.declared.ports.Port.TheVariants as ports
use Rattle.sfc_desk.specs.Desks.{Shown}
use Rattle.round_inputs.specs.declared.halts.Halt.TheVariants as halts
use Rattle.round_inputs.specs.declared.frames_ahead.FrameAhead.{FrameAhead}
use Rattle.round_inputs.specs.declared.round_inputs.RoundInputs.{RoundInputs}
use Rattle.round_inputs.specs.declared.segments_ahead.SegmentAhead.{SegmentAhead}
use Rattle.round_inputs.specs.Reading.{FramesRead}
use Rattle.round_inputs.proofs.AnswerLemmas.{halt_as, halt_is}
use Rattle.round_inputs.proofs.HaltLemmas.{capture_is_no_control, control_is_no_capture, long_own}
use Rattle.round_inputs.proofs.WholeLemmas.{frames_left}
use Rattle.round_inputs.proofs.round_inputs.begin_inputs.Goals as goal

pub returns-in-Err-look_at_frame-clause-long_capture : goal.returns-in-Err-look_at_frame-clause-long_capture
returns-in-Err-look_at_frame-clause-long_capture g c = λ told is.
    c.in-Err-look_at_frame.ensures.long (g.D.Desk.at c.args.desk.now ports.Capture).left [] (record { taken = []; stands = c.new-capture.ensures.history; joined = λ _. refl })
    (halt_as RoundInputs FrameAhead c.in-Err-look_at_frame.halt (halts.Long ports.Capture) is) told

pub returns-in-Err-look_at_frame-clause-long_control : goal.returns-in-Err-look_at_frame-clause-long_control
returns-in-Err-look_at_frame-clause-long_control g c = λ told is.
    absurd (control_is_no_capture (long_own FrameAhead ports.Capture ports.Control (g.D.Desk.at c.args.desk.now) (g.D.Desk.at c.look_at_frame.new.desk) c.in-Err-look_at_frame.halt c.in-Err-look_at_frame.ensures.counts (halt_is RoundInputs c.in-Err-look_at_frame.halt (halts.Long ports.Control) is)))

pub returns-in-Err-look_at_segment-clause-long_capture : goal.returns-in-Err-look_at_segment-clause-long_capture
returns-in-Err-look_at_segment-clause-long_capture g c = λ told is.
    absurd (capture_is_no_control (long_own SegmentAhead ports.Control ports.Capture (g.D.Desk.at c.look_at_frame.new.desk) (g.D.Desk.at c.look_at_segment.new.desk) c.in-Err-look_at_segment.halt c.in-Err-look_at_segment.ensures.counts (halt_is RoundInputs c.in-Err-look_at_segment.halt (halts.Long ports.Capture) is)))

pub returns-in-Err-look_at_segment-clause-long_control : goal.returns-in-Err-look_at_segment-clause-long_control
returns-in-Err-look_at_segment-clause-long_control g c = λ told is.
    c.in-Err-look_at_segment.ensures.long (g.D.Desk.at c.args.desk.now ports.Control).left []
    (record { taken = []; stands = c.in-Ok.ensures.history; joined = λ _. ap (λ (s : Shown). s.left) (c.look_at_frame.ensures.moves.elsewhere ports.Control control_is_no_capture) })
    (halt_as RoundInputs SegmentAhead c.in-Err-look_at_segment.halt (halts.Long ports.Control) is) told

-- the form is that of whatever a reader gets
pub returns-clause-form : goal.returns-clause-form
returns-clause-form g c = λ told form whole are.
    let input = (g.D.Desk.at c.args.desk.now ports.Capture).left in
    let read : FramesRead g.D.Desk.tells input input c.new-capture.result [] = record { taken = []; stands = c.new-capture.ensures.history; joined = λ _. refl } in
    (frames_left g.D.Desk.tells input _ c.in-Ok-look_at_frame.frame c.look_at_frame.new.feed [] form whole.frames whole.capture_fault told (c.in-Ok-look_at_frame.ensures.looks input [] read) are.frames).form_is
