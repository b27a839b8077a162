-- The step's answer, on the bytes that are not used up.
use Rattle.std.proofs.Common.{◌≡◌, ◌+◌, ℕ, Some, None, Ok, Err, refl, sym, ap, ◌∙◌, arith}
use Rattle.bgp_messages.specs.declared.feeds.NextFault.TheVariants as faults
use Rattle.bgp_messages.specs.Kept.{refused}
use Rattle.bgp_messages.specs.Refusals.{Told, Refused, Held}
use Rattle.bgp_messages.specs.Faults.{told_of}
use Rattle.bgp_messages.specs.MessageSteps.{Begins}
use Rattle.bgp_messages.specs.Halts.{stop_at, stop_of}
use Rattle.bgp_messages.proofs.StreamLemmas.{gave, refused_now, answered_again, exact_from_first}
use Rattle.bgp_messages.proofs.RefusalLemmas.{refused_place}
use Rattle.bgp_messages.proofs.FeedLemmas.{rest_after, length_begun}
use Rattle.bgp_messages.proofs.feeds.BgpFeed.next.Goals as goal

pub refusal-requires : goal.refusal-requires
refusal-requires c =
    let here : Refused c.self.inside.buffer.rest (told_of c.in-Refused.fault) = rw c.rest.ensures at c.in-Refused.ensures in
    omega (arith, refused_place _ _ here, c.self.invariant.0)

pub pass-requires : goal.pass-requires
pass-requires c =
    let begun : Begins c.self.inside.buffer.rest c.in-Whole.message c.in-Whole.length = rw c.rest.ensures at c.in-Whole.ensures in
    rw c.from.ensures begun.there

pub returns-in-Whole-clause-first : goal.returns-in-Whole-clause-first
returns-in-Whole-clause-first c = λ on.
    let begun : Begins c.self.inside.buffer.rest c.in-Whole.message c.in-Whole.length = rw c.rest.ensures at c.in-Whole.ensures in
    rw (← c.self.view_is) (record {
      fits = begun.message.fits;
      rest = rw (c.pass.ensures.rest, c.from.ensures) (rest_after c.self.inside.buffer.rest c.in-Whole.length c.in-Whole.message begun);
      place = ap (λ (n : ℕ). c.self.inside.place + n) (c.from-in-Whole.ensures ∙ sym (length_begun _ c.in-Whole.length c.in-Whole.message begun));
      goes_on = rw c.in_default.is refl;
    })

pub returns-in-Refused-clause-first : goal.returns-in-Refused-clause-first
returns-in-Refused-clause-first c = λ on.
    let here : Refused c.self.inside.buffer.rest (told_of c.in-Refused.fault) = rw c.rest.ensures at c.in-Refused.ensures in
    rw (← c.self.view_is) (record {
      here = record { row = told_of c.in-Refused.fault; here = here; told = c.refusal.ensures };
      same_rest = refl;
      same_place = refl;
      stopped = ap (λ (t : Told). Some (refused t)) (sym c.refusal.ensures);
    })

pub returns-in-Some-clause-history : goal.returns-in-Some-clause-history
returns-in-Some-clause-history c = λ taken given stands.
    let stop : c.args.self.now.stop ≡ Some (stop_at c.self.inside.place c.in-Some.halt) = rw (← c.self.view_is) (ap (stop_of c.self.inside.place) c.in-Some.is) in
    answered_again c.args.self.now taken given (stop_at c.self.inside.place c.in-Some.halt) c.fault.result stop stands c.fault.ensures

pub returns-in-Whole-clause-history : goal.returns-in-Whole-clause-history
returns-in-Whole-clause-history c = λ taken given stands.
    let on : c.args.self.now.stop ≡ None = rw (← c.self.view_is) (ap (stop_of c.self.inside.place) c.in_default.is) in
    gave c.args.self.now _ taken given c.in-Whole.message stands (returns-in-Whole-clause-first c on)

pub returns-in-Refused-clause-history : goal.returns-in-Refused-clause-history
returns-in-Refused-clause-history c = λ taken given stands.
    let on : c.args.self.now.stop ≡ None = rw (← c.self.view_is) (ap (stop_of c.self.inside.place) c.in_default.is) in
    refused_now c.args.self.now _ taken given c.refusal.result stands (returns-in-Refused-clause-first c on)

pub returns-in-Wait-clause-exact : goal.returns-in-Wait-clause-exact
returns-in-Wait-clause-exact c = λ on.
    let here : Held c.self.inside.buffer.rest = rw c.rest.ensures at c.in-Wait.ensures in
    let held : Held c.args.self.now.rest = rw (← c.self.view_is) here in
    exact_from_first c.args.self.now c.args.self.now (Ok None) (record { held = held; same = refl })

pub returns-in-Whole-clause-exact : goal.returns-in-Whole-clause-exact
returns-in-Whole-clause-exact c = λ on. exact_from_first c.args.self.now _ (Ok (Some c.in-Whole.message)) (returns-in-Whole-clause-first c on)

pub returns-in-Refused-clause-exact : goal.returns-in-Refused-clause-exact
returns-in-Refused-clause-exact c = λ on. exact_from_first c.args.self.now _ (Err (faults.Bad c.refusal.result)) (returns-in-Refused-clause-first c on)
