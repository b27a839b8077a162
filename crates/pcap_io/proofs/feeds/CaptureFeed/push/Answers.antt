-- Bytes behind a field change nothing of it.
use Rattle.std.proofs.Common.{sym, subst}
use Rattle.pcap_io.specs.Kept.{Kept}
use Rattle.pcap_io.specs.Calls.{RefusedAt}
use Rattle.pcap_io.proofs.ReadsLemmas.{refused_longer}
use Rattle.pcap_io.proofs.feeds.CaptureFeed.push.Goals as goal

pub returns-in-Ok-clause-refused : goal.returns-in-Ok-clause-refused
returns-in-Ok-clause-refused c = λ t told.
    refused_longer c.self.inside.form c.self.inside.buffer.rest _ c.args.piece.now c.self.inside.place t
    c.in-Ok.ensures.ok (subst (λ (feed : Kept). RefusedAt feed t) (sym c.self.view_is) told)
