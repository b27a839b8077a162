-- What the feed's answer says of the bytes is what was shown.
use Rattle.std.proofs.Common.{length, refl, ap, arith}
use Rattle.std.proofs.lemmas.List.{length-append}
use Rattle.bgp_messages.specs.Messages.{spelling}
use Rattle.bgp_messages.specs.Calls.{Gives, Waits, Refuses}
use Rattle.sfc_texts.proofs.BgpLemmas.{spelling_length, next_shown, refusal_shown}
use Rattle.sfc_texts.proofs.bgp_text.show_next.Goals as goal

pub show_message-requires : goal.show_message-requires
show_message-requires c =
    let g : Gives c.args.feed.now c.next.new.self c.in-Ok-Some.message = rw c.in-Ok-Some.field-0-is at (c.in-Ok-Some.ensures.first c.requires) in
    omega (arith, c.place-place.ensures.value, c.place-place.ensures.range, ap length g.rest, length-append (spelling c.in-Ok-Some.message) c.next.new.self.rest, spelling_length c.in-Ok-Some.message)

pub returns-in-Ok-Some : goal.returns-in-Ok-Some
returns-in-Ok-Some c =
    let g : Gives c.args.feed.now c.next.new.self c.in-Ok-Some.message = rw c.in-Ok-Some.field-0-is at (c.in-Ok-Some.ensures.first c.requires) in
    record {
      shown = next_shown c.args.feed.now c.next.new.self c.in-Ok-Some.message c.args.out.now c.show_message.new.out c.show_message.result g (rw c.place-place.ensures.value at c.show_message.ensures);
      count = c.in-Ok-Some.ensures.count;
    }

pub returns-in-Ok-None : goal.returns-in-Ok-None
returns-in-Ok-None c =
    let w : Waits c.args.feed.now c.next.new.self = rw c.in-Ok-None.field-0-is at (c.in-Ok-None.ensures.first c.requires) in
    record { shown = record { waits = w; same = refl }; count = c.in-Ok-None.ensures.count }

pub returns-in_ok-print_refused-in-Err-Bad : goal.returns-in_ok-print_refused-in-Err-Bad
returns-in_ok-print_refused-in-Err-Bad c =
    let r : Refuses c.args.feed.now c.next.new.self c.in-Err-Bad.refusal = rw c.in-Err-Bad.field-0-is at (c.in-Err-Bad.ensures.first c.requires) in
    record {
      shown = refusal_shown c.args.feed.now c.next.new.self c.in-Err-Bad.refusal c.args.out.now c.print_refused.new.out r (rw c.in-Err-Bad.field-0-is at c.in_ok-print_refused-in-Err-Bad.ensures);
      count = c.in-Err-Bad.ensures.count;
    }
