-- Nothing is held.
use Rattle.pcapng_io.proofs.StreamLemmas.{held_start}
use Rattle.pcapng_io.proofs.feeds.NgFeed.new.Goals as goal

pub returns-clause-held : goal.returns-clause-held
returns-clause-held c = rw (c.new.ensures, c.new-2.ensures) held_start
