-- The forwarder that was found has the name, and where none was found none has it.
use Rattle.std.proofs.Common.{◌≡◌, ◌∙◌, sym, refl}
use Rattle.sfc_routes.specs.declared.entries.ForwarderEntry.{ForwarderEntry}
use Rattle.sfc_config.proofs.PlacingLemmas.{at_not}
use Rattle.sfc_config.proofs.placing.place_ingress.Goals as goal

pub returns-in-None : goal.returns-in-None
returns-in-None c = (
  tt,
  λ found. at_not (λ (f : ForwarderEntry). f.name ≡ c.args.name.now) _ _ found.1
      (λ k d lt e. c.in-None.ensures k d lt (e ∙ sym c.as_str.ensures.value)),
)

pub returns-in-Some-ingress : goal.returns-in-Some-ingress
returns-in-Some-ingress c =
    (tt, (c.in-Some.id.0, (c.in-Some.ensures.0, λ d. c.in-Some.ensures.1 d ∙ c.as_str.ensures.value)), λ none. let some = c.in-Some-ingress.is in absurd cc)

pub returns-in-None-ingress : goal.returns-in-None-ingress
returns-in-None-ingress c = (
  record {
    room = tt;
    known = (c.in-Some.id.0, (c.in-Some.ensures.0, λ d. c.in-Some.ensures.1 d ∙ c.as_str.ensures.value));
    new = c.in-None-ingress.is;
    servable = tt;
  },
  (c.in-Some.id, (c.in-Some.ensures.0, λ d. c.in-Some.ensures.1 d ∙ c.as_str.ensures.value), refl),
)
