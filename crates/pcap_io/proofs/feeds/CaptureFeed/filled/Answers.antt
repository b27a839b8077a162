-- Bytes behind a field change nothing of it.
use Rattle.std.proofs.Common.{sym, subst, take}
use Rattle.pcap_io.specs.Kept.{Kept}
use Rattle.pcap_io.specs.Calls.{RefusedAt}
use Rattle.pcap_io.proofs.ReadsLemmas.{refused_longer}
use Rattle.pcap_io.proofs.feeds.CaptureFeed.filled.Goals as goal

pub returns-clause-refused : goal.returns-clause-refused
returns-clause-refused c = λ t told.
    refused_longer c.self.inside.form c.self.inside.buffer.rest _ (take c.args.count c.self.inside.buffer.room) c.self.inside.place t
    c.filled.ensures.rest (subst (λ (feed : Kept). RefusedAt feed t) (sym c.self.view_is) told)
