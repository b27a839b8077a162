-- Where no segment is whole nothing is given, and what is refused ends the control file.
use Rattle.round_inputs.proofs.AheadLemmas.{segment_bad, segment_held, segment_none, segment_refused}
use Rattle.round_inputs.proofs.segments_ahead.segment_at_hand.Goals as goal

pub returns-in-Ok-None-clause-found : goal.returns-in-Ok-None-clause-found
returns-in-Ok-None-clause-found c = λ tells input left given f.
    segment_held tells c.args.feed.now c.next.new.self input left given f
    (λ taken given s. segment_none c.in-Ok-None.field-0 c.next.new.self taken given c.in-Ok-None.field-0-is (c.in-Ok-None.ensures.history taken given s))

pub returns-in-Err-Bad-clause-found : goal.returns-in-Err-Bad-clause-found
returns-in-Err-Bad-clause-found c = λ tells input left given f.
    segment_bad tells c.args.feed.now c.next.new.self input left given (record { place = c.in-Err-Bad.place; reason = c.in-Err-Bad.reason }) f
    (λ taken given s. segment_refused c.in-Err-Bad.field-0 c.in-Err-Bad.place c.in-Err-Bad.reason c.next.new.self taken given c.in-Err-Bad.field-0-is (c.in-Err-Bad.ensures.history taken given s))
