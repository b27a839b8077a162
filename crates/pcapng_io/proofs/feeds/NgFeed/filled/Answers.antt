-- Bytes behind a block change nothing of it.
use Rattle.std.proofs.Common.{take}
use Rattle.pcapng_io.proofs.StreamLemmas.{refused_longer}
use Rattle.pcapng_io.proofs.feeds.NgFeed.filled.Goals as goal

pub returns-clause-refused : goal.returns-clause-refused
returns-clause-refused c = λ t bad.
    rw c.filled.ensures.rest
    (refused_longer c.self.inside.section c.self.inside.place c.self.inside.buffer.rest (take c.args.count c.self.inside.buffer.room) t (rw (← c.self.view_is) at bad))
