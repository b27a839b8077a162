-- What the lent frame came to.
use Rattle.pcapng_io.proofs.feeds.NgFeed.next.Goals as goal

pub returns-in-Ok-None-clause-history : goal.returns-in-Ok-None-clause-history
returns-in-Ok-None-clause-history c = λ taken given s. rw c.in-Ok-None.field-0-is at (c.in-Ok-None.ensures.history taken given s)
