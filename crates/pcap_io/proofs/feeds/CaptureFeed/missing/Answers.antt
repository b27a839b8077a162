-- Bytes are left that are no whole packet.
use Rattle.std.proofs.Common.{◌<◌, length, arith}
use Rattle.pcap_io.proofs.ReadsLemmas.{reads_short, misses_some}
use Rattle.pcap_io.proofs.feeds.CaptureFeed.missing.Goals as goal

pub returns : goal.returns
returns c = record {
  history = λ taken given s held.
      let some : 0 < length c.args.self.now.rest = rw (← c.self.view_is) (grind arith) in
      reads_short c.args.self.now taken given c.short-2.result s held (misses_some c.args.self.now.form c.args.self.now.rest some) c.short-2.ensures;
}
