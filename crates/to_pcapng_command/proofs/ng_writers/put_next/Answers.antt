-- The next packet is whole, refused, or not there.
use Rattle.std.proofs.Common.{◌≡◌, ◌++◌, Option, Some, IfSome, sym, ◌∙◌, subst}
use Rattle.pcap_io.specs.declared.forms.Form.{Form}
use Rattle.pcap_io.specs.Calls.{HeldIn, lent_frame}
use Rattle.to_pcapng_command.proofs.WriterLemmas.{put_says, refuses, rests_says}
use Rattle.to_pcapng_command.proofs.ng_writers.put_next.Goals as goal

pub returns-in-Ok-Some-clause-history : goal.returns-in-Ok-Some-clause-history
returns-in-Ok-Some-clause-history c = λ taken written t.
    let new = c.next_packet.new.self in
    let form : new.form ≡ Some c.args.form = subst (λ (f : Option Form). IfSome f (λ g. new.form ≡ Some g)) c.requires.begun c.in-Ok-Some.ensures.form in
    put_says c.args.feed.now new c.args.form (lent_frame c.in-Ok-Some.head new) c.place-place.result taken written c.args.buffer.now.items c.put_lent.new.buffer.items (HeldIn new.form new.rest) c.put_lent.result
    c.requires.begun form c.place-place.ensures.value c.put_lent.ensures
    (λ given s. rw c.in-Ok-Some.field-0-is at (c.in-Ok-Some.ensures.history taken given s)) t

pub returns-in-Ok-None-clause-history : goal.returns-in-Ok-None-clause-history
returns-in-Ok-None-clause-history c = λ taken written t.
    let new = c.next_packet.new.self in
    let form : new.form ≡ Some c.args.form = subst (λ (f : Option Form). IfSome f (λ g. new.form ≡ Some g)) c.requires.begun c.in-Ok-None.ensures.form in
    rests_says c.args.feed.now new taken (written ++ c.args.buffer.now.items) (form ∙ sym c.requires.begun)
    (λ given s. rw c.in-Ok-None.field-0-is at (c.in-Ok-None.ensures.history taken given s)) t

pub returns-in-Err-clause-history : goal.returns-in-Err-clause-history
returns-in-Err-clause-history c = λ taken written t.
    let new = c.next_packet.new.self in
    let form : new.form ≡ Some c.args.form = subst (λ (f : Option Form). IfSome f (λ g. new.form ≡ Some g)) c.requires.begun c.in-Err.ensures.form in
    refuses c.args.feed.now new taken (written ++ c.args.buffer.now.items) c.in-Err.refusal (form ∙ sym c.requires.begun)
    (λ given s. c.in-Err.ensures.history taken given s) t
