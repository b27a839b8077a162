-- What is refused ends the capture.
use Rattle.round_inputs.proofs.AheadLemmas.{frame_bad}
use Rattle.round_inputs.proofs.frames_ahead.frame_at_hand.Goals as goal

pub returns-in-Err-clause-found : goal.returns-in-Err-clause-found
returns-in-Err-clause-found c = λ tells input left given f.
    frame_bad tells c.args.feed.now c.next_packet.new.self input left given c.in-Err.refusal f (λ taken given s. c.in-Err.ensures.history taken given s)
