-- A piece was read, or nothing is left.
use Rattle.std.proofs.Common.{Bool}
use Rattle.sfc_desk.specs.declared.ports.Port.TheVariants as ports
use Rattle.round_inputs.specs.declared.halts.Halt.TheVariants as halts
use Rattle.round_inputs.specs.declared.frames_ahead.FrameAhead.{FrameAhead}
use Rattle.round_inputs.proofs.AnswerLemmas.{frame_still, halt_as, match_none}
use Rattle.round_inputs.proofs.frames_ahead.look_at_frame.Goals as goal

pub returns-in-Ok-false-clause-looks : goal.returns-in-Ok-false-clause-looks
returns-in-Ok-false-clause-looks g c = λ input given f.
    let none = match_none c.frame_at_hand.result _ _ c.in_default.is (c.frame_at_hand.ensures.found g.D.Desk.tells input _ given (c.pieces.invariant.read input given f)) in
    c.capture_end.ensures.ends g.D.Desk.tells input _ given (c.in-Ok-false.ensures.follows input given none.0)
    (frame_still c.frame_at_hand.new.feed c.read_capture.new.feed c.in-Ok-false.ensures.form (c.in-Ok-false.ensures.still c.in-Ok-false.field-0-test) none.1)
    (λ told. c.in-Ok-false.ensures.end told c.in-Ok-false.field-0-test) c.in-Ok-false.ensures.few

pub returns-in-Err-clause-long : goal.returns-in-Err-clause-long
returns-in-Err-clause-long g c = λ input given f is told.
    let none = match_none c.frame_at_hand.result _ _ c.in_default.is (c.frame_at_hand.ensures.found g.D.Desk.tells input _ given (c.pieces.invariant.read input given f)) in
    c.in-Err.ensures.long input given none.0 (halt_as FrameAhead Bool c.in-Err.halt (halts.Long ports.Capture) is) told
