-- What was turned is all that is written.
use Rattle.std.proofs.Common.{inl}
use Rattle.to_pcapng_command.proofs.WriterLemmas.{ends_refused, ends_whole}
use Rattle.to_pcapng_command.proofs.ng_writers.NgWriterConverter.finish.Goals as goal

pub returns-in-Ok-clause-history : goal.returns-in-Ok-clause-history
returns-in-Ok-clause-history c = λ taken made t quiet.
    ends_whole c.args.self.now.feed taken made t (c.in-Ok.ensures.history taken t.given t.stands (inl quiet))

pub returns-in-Err-Bad-clause-history : goal.returns-in-Err-Bad-clause-history
returns-in-Err-Bad-clause-history c = λ taken made t quiet.
    ends_refused c.args.self.now.feed taken made c.in-Err-Bad.place c.in-Err-Bad.reason t
    (rw c.in-Err-Bad.field-0-is at (c.in-Err-Bad.ensures.history taken t.given t.stands (inl quiet)))
