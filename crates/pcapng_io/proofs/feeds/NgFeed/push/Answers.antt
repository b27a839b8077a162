-- Bytes behind a block change nothing of it.
use Rattle.pcapng_io.proofs.StreamLemmas.{refused_longer}
use Rattle.pcapng_io.proofs.feeds.NgFeed.push.Goals as goal

pub returns-in-Ok-clause-refused : goal.returns-in-Ok-clause-refused
returns-in-Ok-clause-refused c = λ t bad.
    rw c.in-Ok.ensures.ok
    (refused_longer c.self.inside.section c.self.inside.place c.self.inside.buffer.rest c.args.piece.now t (rw (← c.self.view_is) at bad))
