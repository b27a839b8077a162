-- What waits refuses nothing, and what is whole is not refused.
use Rattle.std.proofs.Common.{None, Some, take, drop, ◌+◌, sym, subst}
use Rattle.pcap_io.specs.Kept.{Kept}
use Rattle.pcap_io.specs.Calls.{RefusedAt, HeldIn}
use Rattle.pcap_io.specs.Fronts.{BeginsWith}
use Rattle.pcap_io.specs.Steps.{WholeHead}
use Rattle.pcap_io.specs.Refusals.{told, RefusedHead, RefusedPacket, HeldHead, HeldPacket}
use Rattle.pcap_io.proofs.StreamLemmas.{refused_here}
use Rattle.pcap_io.proofs.ExactLemmas.{held_accepts, header_accepts, packet_accepts}
use Rattle.pcap_io.proofs.feeds.CaptureFeed.refusal.Goals as goal

pub returns-in-Refused : goal.returns-in-Refused
returns-in-Refused c =
    let here : RefusedHead c.self.inside.buffer.rest (told c.in-Refused.at c.in-Refused.reason) = rw c.rest.ensures at c.in-Refused.ensures.1 in
    rw (← c.self.view_is) (refused_here c.self.inside.form None c.self.inside.buffer.rest c.self.inside.place c.in-Refused.at c.in-Refused.reason c.in-None.is here)

pub returns-in-Wait : goal.returns-in-Wait
returns-in-Wait c = λ t at_front.
    let held : HeldHead c.self.inside.buffer.rest = rw c.rest.ensures at c.in-Wait.ensures in
    held_accepts c.self.inside.form c.self.inside.buffer.rest c.self.inside.place
    (subst (λ f. HeldIn f c.self.inside.buffer.rest) (sym c.in-None.is) held) t (subst (λ (feed : Kept). RefusedAt feed t) (sym c.self.view_is) at_front)

pub returns-in-Whole : goal.returns-in-Whole
returns-in-Whole c = λ t at_front.
    let whole : WholeHead c.in-Whole.field-0 c.self.inside.buffer.rest = rw c.rest.ensures at c.in-Whole.ensures in
    header_accepts c.self.inside.form c.in-Whole.field-0 c.self.inside.buffer.rest c.self.inside.place c.in-None.is whole t
    (subst (λ (feed : Kept). RefusedAt feed t) (sym c.self.view_is) at_front)

pub returns-in-Refused-packet_step : goal.returns-in-Refused-packet_step
returns-in-Refused-packet_step c =
    let here : RefusedPacket c.in-Some.form c.self.inside.buffer.rest (told c.in-Refused-packet_step.at c.in-Refused-packet_step.reason) = rw c.rest-in-Some.ensures at c.in-Refused-packet_step.ensures.1 in
    rw (← c.self.view_is) (refused_here c.self.inside.form (Some c.in-Some.form) c.self.inside.buffer.rest c.self.inside.place c.in-Refused-packet_step.at c.in-Refused-packet_step.reason c.in-Some.is here)

pub returns-in-Wait-packet_step : goal.returns-in-Wait-packet_step
returns-in-Wait-packet_step c = λ t at_front.
    let held : HeldPacket c.in-Some.form c.self.inside.buffer.rest = rw c.rest-in-Some.ensures at c.in-Wait-packet_step.ensures.1 in
    held_accepts c.self.inside.form c.self.inside.buffer.rest c.self.inside.place
    (subst (λ f. HeldIn f c.self.inside.buffer.rest) (sym c.in-Some.is) held) t (subst (λ (feed : Kept). RefusedAt feed t) (sym c.self.view_is) at_front)

pub returns-in-Whole-packet_step : goal.returns-in-Whole-packet_step
returns-in-Whole-packet_step c = λ t at_front.
    let begins : BeginsWith c.in-Some.form c.self.inside.buffer.rest c.in-Whole-packet_step.field-0 (take c.in-Whole-packet_step.field-0.captured (drop 16 c.self.inside.buffer.rest)) (drop (16 + c.in-Whole-packet_step.field-0.captured) c.self.inside.buffer.rest) = rw c.rest-in-Some.ensures at c.in-Whole-packet_step.ensures.1 in
    packet_accepts c.self.inside.form c.in-Some.form c.self.inside.buffer.rest c.self.inside.place c.in-Whole-packet_step.field-0 _ _ c.in-Some.is begins t
    (subst (λ (feed : Kept). RefusedAt feed t) (sym c.self.view_is) at_front)
