-- The step's answer, on the rest.
use Rattle.std.proofs.Common.{◌≡◌, None, Some, Ok, Err, refl, arith}
use Rattle.pcap_io.specs.Steps.{WholeHead}
use Rattle.pcap_io.specs.Refusals.{told, RefusedHead, HeldHead}
use Rattle.pcap_io.proofs.StreamLemmas.{refused_here, begins_head, begin_stands}
use Rattle.pcap_io.proofs.feeds.CaptureFeed.begin.Goals as goal

pub invariant_of-self : goal.invariant_of-self
invariant_of-self c = omega (arith, c.pass.ensures.len, c.self.invariant)

pub returns-in-Refused-clause-first : goal.returns-in-Refused-clause-first
returns-in-Refused-clause-first c = λ none.
    let here : RefusedHead c.self.inside.buffer.rest (told c.in-Refused.at c.in-Refused.reason) = rw c.rest.ensures at c.in-Refused.ensures.1 in
    rw (← c.self.view_is) ((refused_here c.self.inside.form None c.self.inside.buffer.rest c.self.inside.place c.in-Refused.at c.in-Refused.reason c.in_default.is here, refl))

pub returns-in-Whole-clause-first : goal.returns-in-Whole-clause-first
returns-in-Whole-clause-first c = λ none.
    let whole : WholeHead c.in-Whole.form c.self.inside.buffer.rest = rw c.rest.ensures at c.in-Whole.ensures in
    rw (← c.self.view_is) (begins_head c.in-Whole.form _ _ whole c.pass.ensures.rest refl refl c.pass.ensures.room refl)

pub returns-in-Wait-clause-history : goal.returns-in-Wait-clause-history
returns-in-Wait-clause-history c = λ taken given stands.
    let none : c.args.self.now.form ≡ None = rw (← c.self.view_is) c.in_default.is in
    let held : HeldHead c.self.inside.buffer.rest = rw c.rest.ensures at c.in-Wait.ensures in
    begin_stands c.args.self.now c.args.self.now (Ok None) taken given none (rw (← c.self.view_is) (held, refl)) stands

pub returns-in-Refused-clause-history : goal.returns-in-Refused-clause-history
returns-in-Refused-clause-history c = λ taken given stands.
    let none : c.args.self.now.form ≡ None = rw (← c.self.view_is) c.in_default.is in
    begin_stands c.args.self.now c.args.self.now (Err _) taken given none (returns-in-Refused-clause-first c none) stands

pub returns-in-Whole-clause-history : goal.returns-in-Whole-clause-history
returns-in-Whole-clause-history c = λ taken given stands.
    let none : c.args.self.now.form ≡ None = rw (← c.self.view_is) c.in_default.is in
    begin_stands c.args.self.now _ (Ok (Some c.in-Whole.form)) taken given none (returns-in-Whole-clause-first c none) stands
