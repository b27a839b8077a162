-- What is quiet is refused or held.
use Rattle.std.proofs.Common.{inl, inr}
use Rattle.pcap_io.specs.Kept.{Kept}
use Rattle.pcap_io.specs.Calls.{IsQuiet, HeldIn, RefusedAt}
use Rattle.pcap_io.specs.declared.reasons.Refusal.{Refusal}
use Rattle.pcap_io.proofs.ReadsLemmas.{reads_refused_here}
use Rattle.pcap_io.proofs.feeds.CaptureFeed.stop.Goals as goal

held_where : (feed : Kept) → ((t : Refusal) → ¬ RefusedAt feed t) → IsQuiet feed → HeldIn feed.form feed.rest
held_where feed none (inl held) = held
held_where feed none (inr bad) = absurd (none bad.0 bad.1)

pub returns-in-Some : goal.returns-in-Some
returns-in-Some c = record {
  history = λ taken given s quiet. reads_refused_here c.args.self.now taken given c.in-Some.refusal s c.in-Some.ensures;
}

pub returns-in-None : goal.returns-in-None
returns-in-None c = record {
  history = λ taken given s quiet. c.missing.ensures.history taken given s (held_where c.args.self.now c.in-None.ensures quiet);
}
