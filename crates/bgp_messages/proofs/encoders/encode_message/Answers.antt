-- The parts that were put make the spelling.
use Rattle.std.proofs.Common.{◌∙◌}
use Rattle.bgp_messages.proofs.EncoderLemmas.{parts_spelled}
use Rattle.bgp_messages.proofs.encoders.encode_message.Goals as goal

pub returns : goal.returns
returns c = record {
  spelled = parts_spelled c.args.message.now _ _ _ _ _ _
      (rw c.new-out.ensures at c.in_ok-push_all.ensures.ok)
      c.in_ok-push_u16.ensures.ok
      c.in_ok-push_all-2.ensures.ok
      (c.number.ensures ∙ c.of_message-kind.ensures)
      c.in_ok-push_all-3.ensures.ok
      (c.as_slice-content.ensures ∙ c.in_ok-content.ensures);
  fits = c.requires;
}
