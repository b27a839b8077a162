-- The feed found a segment, or a piece was read, or nothing is left.
use Rattle.std.proofs.Common.{Bool}
use Rattle.sfc_desk.specs.declared.ports.Port.TheVariants as ports
use Rattle.round_inputs.specs.declared.halts.Halt.TheVariants as halts
use Rattle.round_inputs.specs.declared.segments_ahead.SegmentAhead.{SegmentAhead}
use Rattle.round_inputs.proofs.AnswerLemmas.{halt_as, match_none, match_some, segment_still}
use Rattle.round_inputs.proofs.segments_ahead.look_at_segment.Goals as goal

pub returns-in-Ok-Some-clause-looks : goal.returns-in-Ok-Some-clause-looks
returns-in-Ok-Some-clause-looks g c = λ input given f.
    match_some c.in-Ok-Some.field-0 c.in-Ok-Some.ahead _ _ c.in-Ok-Some.field-0-is (c.in-Ok-Some.ensures.found g.D.Desk.tells input _ given (c.pieces.invariant.read input given f))

pub returns-in-Ok-false-clause-looks : goal.returns-in-Ok-false-clause-looks
returns-in-Ok-false-clause-looks g c = λ input given f.
    let none = match_none c.in-Ok-None.field-0 _ _ c.in-Ok-None.field-0-is (c.in-Ok-None.ensures.found g.D.Desk.tells input _ given (c.pieces.invariant.read input given f)) in
    c.control_end.ensures.ends g.D.Desk.tells input _ given (c.in-Ok-false.ensures.follows input given none.0)
    (segment_still c.segment_at_hand.new.feed c.read_control.new.feed c.in-Ok-false.ensures.peers c.in-Ok-false.ensures.mark c.in-Ok-false.ensures.place (c.in-Ok-false.ensures.still c.in-Ok-false.field-0-test) none.1)
    (λ told. c.in-Ok-false.ensures.end told c.in-Ok-false.field-0-test) c.in-Ok-false.ensures.few

pub returns-in-Err-read_control-clause-long : goal.returns-in-Err-read_control-clause-long
returns-in-Err-read_control-clause-long g c = λ input given f is told.
    let none = match_none c.in-Ok-None.field-0 _ _ c.in-Ok-None.field-0-is (c.in-Ok-None.ensures.found g.D.Desk.tells input _ given (c.pieces.invariant.read input given f)) in
    c.in-Err-read_control.ensures.long input given none.0 (halt_as SegmentAhead Bool c.in-Err-read_control.halt (halts.Long ports.Control) is) told
