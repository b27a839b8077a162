-- What was turned is all that is written.
use Rattle.std.proofs.Common.{inl}
use Rattle.from_pcapng_command.proofs.MakerLemmas.{ends_refused, ends_whole}
use Rattle.from_pcapng_command.proofs.capture_makers.CaptureMakerConverter.finish.Goals as goal

pub returns-in-Ok-clause-history : goal.returns-in-Ok-clause-history
returns-in-Ok-clause-history c = λ taken made t rest.
    ends_whole c.args.self.now taken made t rest (c.in-Ok.ensures.history taken t.given t.stands (inl rest.held))

pub returns-in-Err-Bad-clause-history : goal.returns-in-Err-Bad-clause-history
returns-in-Err-Bad-clause-history c = λ taken made t rest.
    ends_refused c.args.self.now taken made c.in-Err-Bad.place c.in-Err-Bad.reason t rest
    (rw c.in-Err-Bad.field-0-is at (c.in-Err-Bad.ensures.history taken t.given t.stands (inl rest.held)))
