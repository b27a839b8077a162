-- What the block says is taken in, and the block is used up.
use Rattle.pcapng_io.proofs.StreamLemmas.{takes_whole}
use Rattle.pcapng_io.proofs.feeds.NgFeed.use_block.Goals as goal

pub returns-in-Ok-clause-takes : goal.returns-in-Ok-clause-takes
returns-in-Ok-clause-takes c =
    takes_whole c.args.self.now c.pass.new.self c.args.size c.args.said c.in-Ok.taken c.requires.whole
    (rw (← c.self.view_is, c.pass.ensures.section) c.in-Ok.ensures.ok)
    (rw (← c.self.view_is) c.pass.ensures.lent)
    (rw (← c.self.view_is) c.pass.ensures.rest)
    (rw (← c.self.view_is) c.pass.ensures.place)
    (rw (← c.self.view_is) c.pass.ensures.failed)
