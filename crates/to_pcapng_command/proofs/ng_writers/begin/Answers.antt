-- The file header is accepted, refused, or not there.
use Rattle.std.proofs.Common.{◌≡◌, ◌++◌, ap}
use Rattle.pcap_io.specs.Calls.{RefusedAt}
use Rattle.pcap_io.specs.Kept.{Kept}
use Rattle.pcap_io.specs.Refusals.{HeldHead}
use Rattle.to_pcapng_command.proofs.WriterLemmas.{begun_says, refuses, rests_says}
use Rattle.to_pcapng_command.proofs.ng_writers.begin.Goals as goal

pub returns-in-Ok-None-clause-history : goal.returns-in-Ok-None-clause-history
returns-in-Ok-None-clause-history c = λ taken written t.
    let first : HeldHead c.args.feed.now.rest × (c.begin.new.self ≡ c.args.feed.now) = rw c.in-Ok-None.field-0-is at (c.in-Ok-None.ensures.first c.requires.none) in
    rests_says c.args.feed.now c.begin.new.self taken (written ++ c.args.buffer.now.items) (ap (λ (k : Kept). k.form) first.1)
    (λ given s. rw c.in-Ok-None.field-0-is at (c.in-Ok-None.ensures.history taken given s)) t

pub returns-in-Err-clause-history : goal.returns-in-Err-clause-history
returns-in-Err-clause-history c = λ taken written t.
    let first : RefusedAt c.args.feed.now c.in-Err.refusal × (c.begin.new.self ≡ c.args.feed.now) = c.in-Err.ensures.first c.requires.none in
    refuses c.args.feed.now c.begin.new.self taken (written ++ c.args.buffer.now.items) c.in-Err.refusal (ap (λ (k : Kept). k.form) first.1)
    (λ given s. c.in-Err.ensures.history taken given s) t

pub returns-in-Ok-clause-history : goal.returns-in-Ok-clause-history
returns-in-Ok-clause-history c = λ taken written t.
    begun_says c.args.feed.now c.begin.new.self c.in-Ok-Some.form taken written c.args.buffer.now.items c.put_head.new.buffer.items c.requires.none c.in-Ok.ensures
    (λ given s. rw c.in-Ok-Some.field-0-is at (c.in-Ok-Some.ensures.history taken given s)) t
