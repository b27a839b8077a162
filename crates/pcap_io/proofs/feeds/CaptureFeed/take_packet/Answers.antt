-- The step's answer, on the rest.
use Rattle.std.proofs.Common.{◌≡◌, ◌≤◌, ◌+◌, length, take, drop, Some, None, Ok, Err, refl}
use Rattle.pcap_io.specs.Fronts.{BeginsWith}
use Rattle.pcap_io.specs.Refusals.{told, RefusedPacket, HeldPacket}
use Rattle.pcap_io.proofs.ExactLemmas.{exact_in}
use Rattle.pcap_io.proofs.StreamLemmas.{refused_here, gives_packet, next_stands}
use Rattle.pcap_io.proofs.feeds.CaptureFeed.take_packet.Goals as goal

pub returns-in-Refused-clause-next : goal.returns-in-Refused-clause-next
returns-in-Refused-clause-next c =
    let here : RefusedPacket c.args.form c.self.inside.buffer.rest (told c.in-Refused.at c.in-Refused.reason) = rw c.rest.ensures at c.in-Refused.ensures.1 in
    let is : c.self.inside.form ≡ Some c.args.form = rw (← c.self.view_is) at c.requires.begun in
    rw (← c.self.view_is) ((refused_here c.self.inside.form (Some c.args.form) c.self.inside.buffer.rest c.self.inside.place c.in-Refused.at c.in-Refused.reason is here, refl))

pub returns-in-Whole-clause-next : goal.returns-in-Whole-clause-next
returns-in-Whole-clause-next c =
    let there : 16 + c.in-Whole.head.captured ≤ length c.self.inside.buffer.rest = rw c.rest.ensures at c.in-Whole.ensures.0 in
    let begins : BeginsWith c.args.form c.self.inside.buffer.rest c.in-Whole.head (take c.in-Whole.head.captured (drop 16 c.self.inside.buffer.rest)) (drop (16 + c.in-Whole.head.captured) c.self.inside.buffer.rest) = rw c.rest.ensures at c.in-Whole.ensures.1 in
    rw (← c.self.view_is) (gives_packet c.args.form _ _ c.in-Whole.head there begins c.pass.ensures.passed c.pass.ensures.rest refl refl c.pass.ensures.room refl)

pub returns-in-Refused-clause-history : goal.returns-in-Refused-clause-history
returns-in-Refused-clause-history c = λ taken given stands.
    next_stands c.args.form c.args.self.now c.args.self.now (Err _) taken given c.requires.begun (returns-in-Refused-clause-next c) stands

pub returns-in-Whole-clause-history : goal.returns-in-Whole-clause-history
returns-in-Whole-clause-history c = λ taken given stands.
    next_stands c.args.form c.args.self.now _ (Ok (Some c.in-Whole.head)) taken given c.requires.begun (returns-in-Whole-clause-next c) stands

pub returns-in-Refused-clause-exact : goal.returns-in-Refused-clause-exact
returns-in-Refused-clause-exact c = exact_in c.args.form c.args.self.now c.args.self.now (Err _) c.requires.begun (returns-in-Refused-clause-next c)

pub returns-in-Whole-clause-exact : goal.returns-in-Whole-clause-exact
returns-in-Whole-clause-exact c = exact_in c.args.form c.args.self.now _ (Ok (Some c.in-Whole.head)) c.requires.begun (returns-in-Whole-clause-next c)

pub returns-in-Wait-clause-exact : goal.returns-in-Wait-clause-exact
returns-in-Wait-clause-exact c =
    let held : HeldPacket c.args.form c.self.inside.buffer.rest = rw c.rest.ensures at c.in-Wait.ensures.1 in
    exact_in c.args.form c.args.self.now c.args.self.now (Ok None) c.requires.begun (rw (← c.self.view_is) (held, refl))
