-- What ends short, or is refused, ends the control file.
use Rattle.std.proofs.Common.{inl}
use Rattle.round_inputs.proofs.AheadLemmas.{control_bad, segment_end_bad}
use Rattle.round_inputs.proofs.segments_ahead.control_end.Goals as goal

pub returns-in-Err-Bad-clause-ends : goal.returns-in-Err-Bad-clause-ends
returns-in-Err-Bad-clause-ends c = λ tells input left given f held none few.
    segment_end_bad tells c.args.feed.now input left given (record { place = c.in-Err-Bad.place; reason = c.in-Err-Bad.reason }) f
    (λ taken s. control_bad c.in-Err-Bad.field-0 c.in-Err-Bad.place c.in-Err-Bad.reason taken c.args.feed.now.peers given c.in-Err-Bad.field-0-is (c.in-Err-Bad.ensures.history taken given s (inl held)))
    none few
